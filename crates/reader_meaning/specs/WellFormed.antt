-- A well-formed pair of an obligation and a second file, a proof or a derivation, as paper 01 says it: lengths, headers, records, roots, naming.
-- `mode` is the kind of file: 0 an obligation, 1 a proof, 2 a derivation.
use Rattle.std.specs.Prelude.{ℕ, suc, ◌+◌, ◌%◌, ◌<◌, ◌≤◌, ◌≡◌, List, [], ◌∷◌, ◌⊎◌, length}
use Rattle.reader.specs.Words.{Reader, word_of, record_count}
use Rattle.reader.specs.Trees.{Tree, tree, kind_of, atom_of}
use Rattle.reader.specs.Chains.{linked, item_trees, premises}
use Rattle.reader.specs.Weight.{weight}
use Rattle.reader.specs.Names.{name}
use Rattle.reader.specs.Places.{hypothesis_chain, negated_goal, root_of, count_of}
use Rattle.reader.specs.Notions.{Every, IsFormula, NoIndex, TypesBelow, Closed}
use Rattle.reader_laws.specs.File.{alone, beside, last_of}
use Rattle.reader_meaning.specs.Table.{RuleKind, Entry, ChainLengths, Weighed, Light}
use Rattle.reader_meaning.specs.Spelling.{GoodName, ConstantOrFunction, Symbol}
use Rattle.reader_meaning.specs.Typed.{Typed}

-- "No two constants or functions share a name, nor two given types": none of the smaller records has symbol i's name.
pub record OwnName (rd : Reader) (i : ℕ) : Type 0 where
  pub of_types : rd i 0 ≡ 3 → (j : ℕ) → 1 ≤ j → j < i → rd j 0 ≡ 3 → name rd j ≡ name rd i → ⊥
  pub of_others : ConstantOrFunction (rd i 0) → (j : ℕ) → 1 ≤ j → j < i → ConstantOrFunction (rd j 0) → name rd j ≡ name rd i → ⊥

-- record i has a weight that is allowed, where it has one
abbrev pub LightRecord : ℕ → Reader → ℕ → Type 0
LightRecord mode rd i = Weighed (rd i 0) → Light mode (weight (tree rd i))

-- record i has a good name, where it is a symbol
abbrev pub NamedWell : Reader → ℕ → Type 0
NamedWell rd i = Symbol (rd i 0) → GoodName rd i

-- "10 typing, not in derivations": record i is typed as paper 01 asks, but in a derivation
abbrev pub TypedWell : ℕ → Reader → ℕ → Type 0
TypedWell mode rd i = (mode ≡ 2 → ⊥) → Typed rd i

-- Record i of a file of kind `mode` has none of the refusals 3 to 10.
pub record WellFormedRecord (mode : ℕ) (rd : Reader) (i : ℕ) : Type 0 where
  pub entry : Entry mode rd i
  pub chain_lengths : ChainLengths rd i
  pub weighs : LightRecord mode rd i
  pub good_name : NamedWell rd i
  pub own_name : OwnName rd i
  pub typed : TypedWell mode rd i

-- "over 1,024 records (obligation), 3,073 (proof), 200,001 (derivation), header counted" are refused
pub data FewRecords (mode n : ℕ) : Type 0 where
  obligation : mode ≡ 0 → n ≤ 1024 → FewRecords mode n
  proof : mode ≡ 1 → n ≤ 3073 → FewRecords mode n
  derivation : mode ≡ 2 → n ≤ 200001 → FewRecords mode n

-- "1 under 16 bytes, no multiple of 16, or over" so many records
pub record WholeRecords (mode : ℕ) (s : List ℕ) : Type 0 where
  pub header : 16 ≤ length s
  pub whole : length s % 16 ≡ 0
  pub few : FewRecords mode (record_count s)

-- "The first is the header: 1, the count n of the records after it"
pub record Header (s : List ℕ) : Type 0 where
  pub first : word_of s 0 0 ≡ 1
  pub count : count_of s + 1 ≡ record_count s

-- The second file's header has the obligation's count too.
pub record SecondHeader (ob s : List ℕ) : Type 0 where
  pub header : Header s
  pub count : word_of s 0 3 ≡ count_of ob

-- The goal is a closed ¬ of the obligation's m records.
pub record Goal (rd : Reader) (m : ℕ) : Type 0 where
  pub given : 1 ≤ negated_goal rd
  pub in_range : negated_goal rd ≤ m
  pub negation : rd (negated_goal rd) 0 ≡ 18
  pub closed : Closed (tree rd (negated_goal rd))

-- A hypothesis is a closed formula, or a kind 22 without unbound indices, its type variables below its count.
pub data Hypothesis (t : Tree) : Type 0 where
  formula : IsFormula t → Closed t → Hypothesis t
  for_all_types : kind_of t ≡ 22 → NoIndex t → TypesBelow (atom_of t) t → Hypothesis t

-- The hypotheses are a chain in the obligation's m records, or 0 for none; "over 256 hypotheses" is refused.
pub record Hypotheses (rd : Reader) (m : ℕ) : Type 0 where
  pub in_range : hypothesis_chain rd ≤ m
  pub link : (hypothesis_chain rd ≡ 0) ⊎ (rd (hypothesis_chain rd) 0 ≡ 1)
  pub each : Every Hypothesis (item_trees rd (hypothesis_chain rd))
  pub at_most : length (linked rd (hypothesis_chain rd)) ≤ 256

-- The root is a rule node of the second file, records m + 1 to `last`.
pub record Root (mode : ℕ) (rd : Reader) (root m last : ℕ) : Type 0 where
  pub after : m + 1 ≤ root
  pub in_range : root ≤ last
  pub rule : RuleKind mode (rd root 0)

-- the chain of premises xs has record i so many times
pub data Times (i : ℕ) : List ℕ → ℕ → Type 0 where
  none : Times i [] 0
  this : {x c : ℕ} {xs : List ℕ} → x ≡ i → Times i xs c → Times i (x ∷ xs) (suc c)
  other : {x c : ℕ} {xs : List ℕ} → (x ≡ i → ⊥) → Times i xs c → Times i (x ∷ xs) c

-- the premise chains of the rule nodes among records 1 to n name record i so many times
pub data Namings (mode : ℕ) (rd : Reader) (i : ℕ) : ℕ → ℕ → Type 0 where
  none : Namings mode rd i 0 0
  rule : {n b c : ℕ} → RuleKind mode (rd (suc n) 0) → Times i (premises rd (suc n)) b → Namings mode rd i n c → Namings mode rd i (suc n) (b + c)
  other : {n c : ℕ} → (RuleKind mode (rd (suc n) 0) → ⊥) → Namings mode rd i n c → Namings mode rd i (suc n) c

-- "named exactly once, counting premise chains of nodes and the header's root": record i of records 1 to `last`
pub data NamedOnce (mode : ℕ) (rd : Reader) (root last i : ℕ) : Type 0 where
  by_header : root ≡ i → Namings mode rd i last 0 → NamedOnce mode rd root last i
  by_node : (root ≡ i → ⊥) → Namings mode rd i last 1 → NamedOnce mode rd root last i

-- An obligation that passes all of its places; its records are those of the file by itself.
pub record WellFormedObligation (ob : List ℕ) : Type 0 where
  pub whole_records : WholeRecords 0 ob
  pub header : Header ob
  pub records : (i : ℕ) → 1 ≤ i → i ≤ count_of ob → WellFormedRecord 0 (alone ob) i
  pub goal : Goal (alone ob) (count_of ob)
  pub hypotheses : Hypotheses (alone ob) (count_of ob)

-- A second file of kind `mode` that passes places 1 to 12, its records m + 1 to m + n read beside the obligation's through one numbering.
pub record WellFormedSecond (mode : ℕ) (ob s : List ℕ) : Type 0 where
  pub whole_records : WholeRecords mode s
  pub header : SecondHeader ob s
  pub records : (i : ℕ) → count_of ob + 1 ≤ i → i ≤ last_of ob s → WellFormedRecord mode (beside ob s) i
  pub root : Root mode (beside ob s) (root_of s) (count_of ob) (last_of ob s)
  pub once : (i : ℕ) → count_of ob + 1 ≤ i → i ≤ last_of ob s → RuleKind mode (beside ob s i 0) →
      NamedOnce mode (beside ob s) (root_of s) (last_of ob s) i

-- A well-formed pair of an obligation and a second file of kind `mode`.
pub record WellFormedPair (mode : ℕ) (ob s : List ℕ) : Type 0 where
  pub obligation : WellFormedObligation ob
  pub second : WellFormedSecond mode ob s

-- of an obligation and a proof
abbrev pub WellFormed : List ℕ → List ℕ → Type 0
WellFormed ob pf = WellFormedPair 1 ob pf

-- of an obligation and a derivation
abbrev pub WellFormedDerivation : List ℕ → List ℕ → Type 0
WellFormedDerivation ob dv = WellFormedPair 2 ob dv
