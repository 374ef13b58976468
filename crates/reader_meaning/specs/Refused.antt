-- When a pair is refused, and where: one case for each place of paper 01, in its order, each with what its place finds and that no place before it refuses.
-- `mode` is the kind of the second file: 1 a proof, 2 a derivation.
use Rattle.std.specs.Prelude.{ℕ, ◌+◌, ◌<◌, ◌≤◌, List}
use Rattle.reader.specs.declared.Answer.{Answer}
use Rattle.reader.specs.Words.{Reader}
use Rattle.reader.specs.Answers.{answer}
use Rattle.reader.specs.Places.{root_of, count_of}
use Rattle.reader_laws.specs.File.{alone, beside, last_of}
use Rattle.reader_meaning.specs.Table.{RuleKind, Kind, Entry, Ranges, ChainLengths}
use Rattle.reader_meaning.specs.WellFormed.{OwnName, LightRecord, NamedWell, TypedWell, WellFormedRecord, WholeRecords, Header, SecondHeader}
use Rattle.reader_meaning.specs.WellFormed.{Goal, Hypotheses, Root, NamedOnce, WellFormedObligation, WellFormedPair}

-- "within one record or node the lower number wins": the refusal of record i of a file of kind `mode` is the first of 3 to 10 whose condition holds.
pub data RecordRefused (mode : ℕ) (rd : Reader) (i : ℕ) : ℕ → Type 0 where
  -- "3 kind"
  kind : (Kind mode (rd i 0) → ⊥) → RecordRefused mode rd i 3
  -- "4 range or word not 0"
  range : Kind mode (rd i 0) → (Ranges mode rd i → ⊥) → RecordRefused mode rd i 4
  -- "5 reference zero, not smaller or of wrong class": all that the table says beside kind and ranges
  reference : Ranges mode rd i → (Entry mode rd i → ⊥) → RecordRefused mode rd i 5
  -- "6 chain length"
  chain_length : Entry mode rd i → (ChainLengths rd i → ⊥) → RecordRefused mode rd i 6
  -- "7 weight over 4,096 (derivation 16,384)"
  weight : Entry mode rd i → ChainLengths rd i → (LightRecord mode rd i → ⊥) → RecordRefused mode rd i 7
  -- "8 name, at its symbol"
  name : Entry mode rd i → ChainLengths rd i → LightRecord mode rd i → (NamedWell rd i → ⊥) → RecordRefused mode rd i 8
  -- "9 name taken"
  name_taken : Entry mode rd i → ChainLengths rd i → LightRecord mode rd i → NamedWell rd i → (OwnName rd i → ⊥) → RecordRefused mode rd i 9
  -- "10 typing, not in derivations"
  typing : Entry mode rd i → ChainLengths rd i → LightRecord mode rd i → NamedWell rd i → OwnName rd i → (TypedWell mode rd i → ⊥) →
      RecordRefused mode rd i 10

-- The pair is refused at one of the places 1 to 12. "Places go top to bottom, the obligation through all of its places first".
pub data RefusedBefore (mode : ℕ) (ob s : List ℕ) : Answer → Type 0 where
  obligation_length : (WholeRecords 0 ob → ⊥) → RefusedBefore mode ob s (answer 1 1 0 0)
  obligation_header : WholeRecords 0 ob → (Header ob → ⊥) → RefusedBefore mode ob s (answer 2 1 0 0)
  -- "records, rising"
  obligation_record : {i r : ℕ} → WholeRecords 0 ob → Header ob → 1 ≤ i → i ≤ count_of ob →
      ((j : ℕ) → 1 ≤ j → j < i → WellFormedRecord 0 (alone ob) j) → RecordRefused 0 (alone ob) i r → RefusedBefore mode ob s (answer r 1 i 0)
  obligation_roots : WholeRecords 0 ob → Header ob → ((i : ℕ) → 1 ≤ i → i ≤ count_of ob → WellFormedRecord 0 (alone ob) i) →
      (Goal (alone ob) (count_of ob) → Hypotheses (alone ob) (count_of ob) → ⊥) → RefusedBefore mode ob s (answer 11 1 0 0)
  second_length : WellFormedObligation ob → (WholeRecords mode s → ⊥) → RefusedBefore mode ob s (answer 1 2 0 0)
  second_header : WellFormedObligation ob → WholeRecords mode s → (SecondHeader ob s → ⊥) → RefusedBefore mode ob s (answer 2 2 0 0)
  second_record : {i r : ℕ} → WellFormedObligation ob → WholeRecords mode s → SecondHeader ob s → count_of ob + 1 ≤ i → i ≤ last_of ob s →
      ((j : ℕ) → count_of ob + 1 ≤ j → j < i → WellFormedRecord mode (beside ob s) j) → RecordRefused mode (beside ob s) i r →
      RefusedBefore mode ob s (answer r 2 i 0)
  second_root : WellFormedObligation ob → WholeRecords mode s → SecondHeader ob s →
      ((i : ℕ) → count_of ob + 1 ≤ i → i ≤ last_of ob s → WellFormedRecord mode (beside ob s) i) →
      (Root mode (beside ob s) (root_of s) (count_of ob) (last_of ob s) → ⊥) → RefusedBefore mode ob s (answer 11 2 0 0)
  -- "rule nodes, rising"
  naming : {i : ℕ} → WellFormedObligation ob → WholeRecords mode s → SecondHeader ob s →
      ((j : ℕ) → count_of ob + 1 ≤ j → j ≤ last_of ob s → WellFormedRecord mode (beside ob s) j) →
      Root mode (beside ob s) (root_of s) (count_of ob) (last_of ob s) → count_of ob + 1 ≤ i → i ≤ last_of ob s →
      ((j : ℕ) → count_of ob + 1 ≤ j → j < i → RuleKind mode (beside ob s j 0) → NamedOnce mode (beside ob s) (root_of s) (last_of ob s) j) →
      RuleKind mode (beside ob s i 0) → (NamedOnce mode (beside ob s) (root_of s) (last_of ob s) i → ⊥) → RefusedBefore mode ob s (answer 12 2 i 0)

-- The pair is refused: before the walk, or where all places before it pass and the walk stops. `WalkStops a` says that the walk from the root stops with a.
pub data RefusedPair (mode : ℕ) (ob s : List ℕ) (WalkStops : Answer → Type 0) : Answer → Type 0 where
  before_walk : {a : Answer} → RefusedBefore mode ob s a → RefusedPair mode ob s WalkStops a
  in_walk : {a : Answer} → WellFormedPair mode ob s → WalkStops a → RefusedPair mode ob s WalkStops a
