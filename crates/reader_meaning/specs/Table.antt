-- The table of records of paper 01, with kind 23 of paper 02, U3: the kind of a record and each of its words, the lengths of its chains, the kinds with a
-- weight and the most that they may weigh. `mode` is the kind of file: 0 an obligation, 1 a proof, 2 a derivation.
use Rattle.std.specs.Prelude.{ℕ, ◌<◌, ◌≤◌, ◌≡◌, ◌⊎◌, length}
use Rattle.reader.specs.Words.{Reader}
use Rattle.reader.specs.Kinds.{class, class_at}
use Rattle.reader.specs.Chains.{linked, items}
use Rattle.reader.specs.Names.{name_of}
use Rattle.reader.specs.Notions.{Every}

-- References: "Every reference points to a smaller record number".

-- word w of record i names a record
pub record NamesAny (rd : Reader) (i w : ℕ) : Type 0 where
  pub given : 1 ≤ rd i w
  pub smaller : rd i w < i

-- word w of record i names a record of class c: 1 link, 2 name, 3 type, 4 term, 5 formula, 6 function
pub record Names (rd : Reader) (i w c : ℕ) : Type 0 where
  pub given : 1 ≤ rd i w
  pub smaller : rd i w < i
  pub of_class : class_at rd (rd i w) ≡ c

abbrev pub NamesName : Reader → ℕ → ℕ → Type 0
NamesName rd i w = Names rd i w 2

abbrev pub NamesType : Reader → ℕ → ℕ → Type 0
NamesType rd i w = Names rd i w 3

abbrev pub NamesTerm : Reader → ℕ → ℕ → Type 0
NamesTerm rd i w = Names rd i w 4

abbrev pub NamesFormula : Reader → ℕ → ℕ → Type 0
NamesFormula rd i w = Names rd i w 5

abbrev pub NamesFunction : Reader → ℕ → ℕ → Type 0
NamesFunction rd i w = Names rd i w 6

-- "0 ends": word w of record i is 0, or names a record of class c
abbrev pub MayName : Reader → ℕ → ℕ → ℕ → Type 0
MayName rd i w c = (rd i w ≡ 0) ⊎ Names rd i w c

-- word w of record i names a chain of links, each item of class c
pub record NamesChain (rd : Reader) (i w c : ℕ) : Type 0 where
  pub link : Names rd i w 1
  pub items_of : Every (λ x. class_at rd x ≡ c) (items rd (rd i w))

-- "0 if none"
abbrev pub MayNameChain : Reader → ℕ → ℕ → ℕ → Type 0
MayNameChain rd i w c = (rd i w ≡ 0) ⊎ NamesChain rd i w c

-- "Kinds 32–46 stand in a proof only, 64–80 in a derivation only."
pub data RuleKind (mode k : ℕ) : Type 0 where
  proof : mode ≡ 1 → 32 ≤ k → k ≤ 46 → RuleKind mode k
  derivation : mode ≡ 2 → 64 ≤ k → k ≤ 80 → RuleKind mode k

-- the kinds of a file: those of the table's other rows stand in every file
pub data Kind (mode k : ℕ) : Type 0 where
  table : 1 ≤ k → k ≤ 23 → Kind mode k
  rule : RuleKind mode k → Kind mode k

-- The table of records: the kind of record i and each of its words; "Words not listed are 0."
pub data Entry (mode : ℕ) (rd : Reader) (i : ℕ) : Type 0 where
  link : rd i 0 ≡ 1 → NamesAny rd i 1 → rd i 2 ≡ 0 → MayName rd i 3 1 → Entry mode rd i
  name_record : rd i 0 ≡ 2 → MayName rd i 3 2 → Entry mode rd i
  given_type : rd i 0 ≡ 3 → NamesName rd i 1 → rd i 2 ≡ 0 → rd i 3 ≡ 0 → Entry mode rd i
  set_type : rd i 0 ≡ 4 → NamesType rd i 1 → rd i 2 ≡ 0 → rd i 3 ≡ 0 → Entry mode rd i
  pair_type : rd i 0 ≡ 5 → NamesType rd i 1 → NamesType rd i 2 → rd i 3 ≡ 0 → Entry mode rd i
  type_variable : rd i 0 ≡ 6 → rd i 1 ≤ 3 → rd i 2 ≡ 0 → rd i 3 ≡ 0 → Entry mode rd i
  constant : rd i 0 ≡ 7 → NamesType rd i 1 → NamesName rd i 2 → rd i 3 ≡ 0 → Entry mode rd i
  function : rd i 0 ≡ 8 → NamesChain rd i 1 3 → rd i 2 ≤ 4 → NamesName rd i 3 → Entry mode rd i
  bound_variable : rd i 0 ≡ 9 → rd i 1 ≤ 63 → NamesType rd i 2 → rd i 3 ≡ 0 → Entry mode rd i
  pair : rd i 0 ≡ 10 → NamesTerm rd i 1 → NamesTerm rd i 2 → NamesType rd i 3 → Entry mode rd i
  product : rd i 0 ≡ 11 → NamesTerm rd i 1 → NamesTerm rd i 2 → NamesType rd i 3 → Entry mode rd i
  powerset : rd i 0 ≡ 12 → NamesTerm rd i 1 → NamesType rd i 2 → rd i 3 ≡ 0 → Entry mode rd i
  application : rd i 0 ≡ 13 → NamesFunction rd i 1 → NamesChain rd i 2 3 → MayNameChain rd i 3 4 → Entry mode rd i
  falsity : rd i 0 ≡ 14 → rd i 1 ≡ 0 → rd i 2 ≡ 0 → rd i 3 ≡ 0 → Entry mode rd i
  truth : rd i 0 ≡ 15 → rd i 1 ≡ 0 → rd i 2 ≡ 0 → rd i 3 ≡ 0 → Entry mode rd i
  conjunction : rd i 0 ≡ 16 → NamesFormula rd i 1 → NamesFormula rd i 2 → rd i 3 ≡ 0 → Entry mode rd i
  implication : rd i 0 ≡ 17 → NamesFormula rd i 1 → NamesFormula rd i 2 → rd i 3 ≡ 0 → Entry mode rd i
  negation : rd i 0 ≡ 18 → NamesFormula rd i 1 → rd i 2 ≡ 0 → rd i 3 ≡ 0 → Entry mode rd i
  universal : rd i 0 ≡ 19 → NamesType rd i 1 → NamesFormula rd i 2 → rd i 3 ≡ 0 → Entry mode rd i
  equation : rd i 0 ≡ 20 → NamesTerm rd i 1 → NamesTerm rd i 2 → rd i 3 ≡ 0 → Entry mode rd i
  membership : rd i 0 ≡ 21 → NamesTerm rd i 1 → NamesTerm rd i 2 → rd i 3 ≡ 0 → Entry mode rd i
  for_all_types : rd i 0 ≡ 22 → 1 ≤ rd i 1 → rd i 1 ≤ 4 → NamesFormula rd i 2 → rd i 3 ≡ 0 → Entry mode rd i
  choice : rd i 0 ≡ 23 → NamesTerm rd i 1 → NamesType rd i 2 → rd i 3 ≡ 0 → Entry mode rd i
  rule_node : RuleKind mode (rd i 0) → MayName rd i 1 1 → MayName rd i 2 1 → rd i 3 ≡ 0 → Entry mode rd i

-- The same table, of each row the words that are no references: "4 range or word not 0".
pub data Ranges (mode : ℕ) (rd : Reader) (i : ℕ) : Type 0 where
  link : rd i 0 ≡ 1 → rd i 2 ≡ 0 → Ranges mode rd i
  name_record : rd i 0 ≡ 2 → Ranges mode rd i
  given_type : rd i 0 ≡ 3 → rd i 2 ≡ 0 → rd i 3 ≡ 0 → Ranges mode rd i
  set_type : rd i 0 ≡ 4 → rd i 2 ≡ 0 → rd i 3 ≡ 0 → Ranges mode rd i
  pair_type : rd i 0 ≡ 5 → rd i 3 ≡ 0 → Ranges mode rd i
  type_variable : rd i 0 ≡ 6 → rd i 1 ≤ 3 → rd i 2 ≡ 0 → rd i 3 ≡ 0 → Ranges mode rd i
  constant : rd i 0 ≡ 7 → rd i 3 ≡ 0 → Ranges mode rd i
  function : rd i 0 ≡ 8 → rd i 2 ≤ 4 → Ranges mode rd i
  bound_variable : rd i 0 ≡ 9 → rd i 1 ≤ 63 → rd i 3 ≡ 0 → Ranges mode rd i
  pair : rd i 0 ≡ 10 → Ranges mode rd i
  product : rd i 0 ≡ 11 → Ranges mode rd i
  powerset : rd i 0 ≡ 12 → rd i 3 ≡ 0 → Ranges mode rd i
  application : rd i 0 ≡ 13 → Ranges mode rd i
  falsity : rd i 0 ≡ 14 → rd i 1 ≡ 0 → rd i 2 ≡ 0 → rd i 3 ≡ 0 → Ranges mode rd i
  truth : rd i 0 ≡ 15 → rd i 1 ≡ 0 → rd i 2 ≡ 0 → rd i 3 ≡ 0 → Ranges mode rd i
  conjunction : rd i 0 ≡ 16 → rd i 3 ≡ 0 → Ranges mode rd i
  implication : rd i 0 ≡ 17 → rd i 3 ≡ 0 → Ranges mode rd i
  negation : rd i 0 ≡ 18 → rd i 2 ≡ 0 → rd i 3 ≡ 0 → Ranges mode rd i
  universal : rd i 0 ≡ 19 → rd i 3 ≡ 0 → Ranges mode rd i
  equation : rd i 0 ≡ 20 → rd i 3 ≡ 0 → Ranges mode rd i
  membership : rd i 0 ≡ 21 → rd i 3 ≡ 0 → Ranges mode rd i
  for_all_types : rd i 0 ≡ 22 → 1 ≤ rd i 1 → rd i 1 ≤ 4 → rd i 3 ≡ 0 → Ranges mode rd i
  choice : rd i 0 ≡ 23 → rd i 3 ≡ 0 → Ranges mode rd i
  rule_node : RuleKind mode (rd i 0) → rd i 3 ≡ 0 → Ranges mode rd i

-- Chain lengths: at most 4 name records (none for what is no symbol), 1 to 5 types, at most 4 arguments.
pub record ChainLengths (rd : Reader) (i : ℕ) : Type 0 where
  pub name_records : length (linked rd (name_of rd i)) ≤ 4
  pub function_types : rd i 0 ≡ 8 → (1 ≤ length (linked rd (rd i 1))) × (length (linked rd (rd i 1)) ≤ 5)
  pub application_types : rd i 0 ≡ 13 → (1 ≤ length (linked rd (rd i 2))) × (length (linked rd (rd i 2)) ≤ 5)
  pub application_arguments : rd i 0 ≡ 13 → length (linked rd (rd i 3)) ≤ 4

-- "every other type, term or formula", "kind 22 weighs as a formula": the kinds with a weight
pub data Weighed (k : ℕ) : Type 0 where
  type : class k ≡ 3 → Weighed k
  term : class k ≡ 4 → Weighed k
  formula : class k ≡ 5 → Weighed k
  for_all_types : class k ≡ 7 → Weighed k

-- a weight that is allowed: "weight over 4,096 (derivation 16,384)" is refused
pub data Light (mode w : ℕ) : Type 0 where
  elsewhere : (mode ≡ 2 → ⊥) → w ≤ 4096 → Light mode w
  in_derivation : mode ≡ 2 → w ≤ 16384 → Light mode w
