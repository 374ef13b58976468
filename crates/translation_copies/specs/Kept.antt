-- Chains and names of the copied records. They go through links, name records and symbols only, all of which keep their words.
use Prim.Native.Nat.{ℕ, zero, suc, ◌<◌, ◌≤◌}
use Rattle.std.specs.Prelude.{◌≡◌, Bool}
use Rattle.std.proofs.Math.Path.{refl, sym, ap}
use Rattle.std.proofs.Common.{◌∙◌, arith, eqb-true}
use Rattle.std.proofs.Math.Bool.{true, false}
use mathlib.Core.List.{List, [], ◌∷◌}
use Rattle.std.proofs.Math.Dec.{eqb}
use Rattle.reader.specs.Words.{Reader}
use Rattle.reader.specs.Tests.{both, between, every, if_eq, if_lt}
use Rattle.reader.specs.Kinds.{is_rule, class_at}
use Rattle.reader.specs.Trees.{lower}
use Rattle.reader.specs.Chains.{linked, items}
use Rattle.reader.specs.TreeLaws.{below, lower_below, linked_zero, linked_step_lem, items_zero, items_step}
use Rattle.reader.specs.Names.{name_of, name_space, record_bytes, name_bytes, characters, name, has_bytes, is_name, same_name, taken_below, name_taken}
use Rattle.reader_laws.specs.Scan.{every_head, when_different}
use Rattle.reader_laws.specs.Record.{Sound, name_most}
use Rattle.reader_laws.specs.Parts.{given_type_first, constant_second, function_third}
use Rattle.reader_laws.specs.Links.{links_are_links, names_are_names}
use Rattle.reader_laws.specs.Pair.{rule_kind}
use Rattle.translation_rules.specs.Output.{copied}
use Rattle.translation_copies.specs.Copies.{copied_word, copied_rule, lower_same}

every_both : (test : ℕ → Bool) (x : ℕ) (xs : List ℕ) → every test (x ∷ xs) ≡ both (test x) (every test xs)
unfolding every both
every_both test x xs = refl

either_same : {a b x y : Bool} → a ≡ b → x ≡ y → ◌≡◌ {A = Bool} (elim a [ true ↦ true | false ↦ x ]) (elim b [ true ↦ true | false ↦ y ])
either_same e q = cc

-- two tests that agree where a third holds
pub every_where : (t u good : ℕ → Bool) → ((x : ℕ) → good x ≡ true → t x ≡ u x) → (xs : List ℕ) → every good xs ≡ true → every t xs ≡ every u xs
unfolding every
every_where t u good same [] h = refl
every_where t u good same (x ∷ xs) h =
    let split = every_head good x xs h in
    let head : t x ≡ u x = same x split.0 in
    let tail : every t xs ≡ every u xs = every_where t u good same xs split.1 in
    every_both t x xs ∙ ap (λ (b : Bool). both b (every t xs)) head ∙ ap (both (u x)) tail ∙ sym (every_both u x xs)

-- a link and a name record are no rule nodes
link_plain : is_rule 1 1 ≡ false
unfolding is_rule if_eq if_lt between
link_plain = refl

name_plain : is_rule 1 2 ≡ false
unfolding is_rule if_eq if_lt between
name_plain = refl

-- The records of a chain are all of kind k, which is no rule.
module _ (rd : Reader) (k : ℕ) (plain : is_rule 1 k ≡ false) where
  word_kept : (i : ℕ) → eqb (rd i 0) k ≡ true → (w : ℕ) → copied rd i w ≡ rd i w
  word_kept i e w = copied_word rd i w (ap (is_rule 1) (eqb-true (rd i 0) k e) ∙ plain)

  -- the chain is the same
  pub linked_kept : (c : ℕ) → every (λ l. eqb (rd l 0) k) (linked rd c) ≡ true → linked (copied rd) c ≡ linked rd c
  linked_kept = below (λ c. every (λ l. eqb (rd l 0) k) (linked rd c) ≡ true → linked (copied rd) c ≡ linked rd c) step
    where
      step : (n : ℕ) → ((j : ℕ) → j < n → every (λ l. eqb (rd l 0) k) (linked rd j) ≡ true → linked (copied rd) j ≡ linked rd j) →
          every (λ l. eqb (rd l 0) k) (linked rd n) ≡ true → linked (copied rd) n ≡ linked rd n
      step zero f h = linked_zero (copied rd) ∙ sym (linked_zero rd)
      step (suc n) f h =
          let split = every_head (λ l. eqb (rd l 0) k) (suc n) (linked rd (lower rd (suc n) 3))
          (ap (every (λ l. eqb (rd l 0) k)) (sym (linked_step_lem rd (suc n) (omega arith))) ∙ h) in
          let less : lower rd (suc n) 3 < suc n = lower_below rd (suc n) 3 (omega arith) in
          let rest : linked (copied rd) (lower (copied rd) (suc n) 3) ≡ linked rd (lower rd (suc n) 3) =
          ap (linked (copied rd)) (lower_same rd (copied rd) (suc n) (word_kept (suc n) split.0) 3) ∙ f (lower rd (suc n) 3) less split.1 in
          linked_step_lem (copied rd) (suc n) (omega arith) ∙ ap (λ (xs : List ℕ). suc n ∷ xs) rest ∙ sym (linked_step_lem rd (suc n) (omega arith))

  -- and so are its items
  pub items_kept : (c : ℕ) → every (λ l. eqb (rd l 0) k) (linked rd c) ≡ true → items (copied rd) c ≡ items rd c
  items_kept = below (λ c. every (λ l. eqb (rd l 0) k) (linked rd c) ≡ true → items (copied rd) c ≡ items rd c) step
    where
      step : (n : ℕ) → ((j : ℕ) → j < n → every (λ l. eqb (rd l 0) k) (linked rd j) ≡ true → items (copied rd) j ≡ items rd j) →
          every (λ l. eqb (rd l 0) k) (linked rd n) ≡ true → items (copied rd) n ≡ items rd n
      step zero f h = items_zero (copied rd) ∙ sym (items_zero rd)
      step (suc n) f h =
          let split = every_head (λ l. eqb (rd l 0) k) (suc n) (linked rd (lower rd (suc n) 3))
          (ap (every (λ l. eqb (rd l 0) k)) (sym (linked_step_lem rd (suc n) (omega arith))) ∙ h) in
          let less : lower rd (suc n) 3 < suc n = lower_below rd (suc n) 3 (omega arith) in
          let first : lower (copied rd) (suc n) 1 ≡ lower rd (suc n) 1 = lower_same rd (copied rd) (suc n) (word_kept (suc n) split.0) 1 in
          let rest : items (copied rd) (lower (copied rd) (suc n) 3) ≡ items rd (lower rd (suc n) 3) =
          ap (items (copied rd)) (lower_same rd (copied rd) (suc n) (word_kept (suc n) split.0) 3) ∙ f (lower rd (suc n) 3) less split.1 in
          items_step (copied rd) (suc n) (omega arith) ∙ ap (λ (xs : List ℕ). lower (copied rd) (suc n) 1 ∷ xs) rest
          ∙ ap (λ (x : ℕ). x ∷ items rd (lower rd (suc n) 3)) first ∙ sym (items_step rd (suc n) (omega arith))

  -- the bytes of its records
  record_bytes_kept : (i : ℕ) → eqb (rd i 0) k ≡ true → record_bytes (copied rd) i ≡ record_bytes rd i
  unfolding record_bytes
  record_bytes_kept i e = rw (word_kept i e 1, word_kept i e 2)

  name_bytes_kept : (xs : List ℕ) → every (λ l. eqb (rd l 0) k) xs ≡ true → name_bytes (copied rd) xs ≡ name_bytes rd xs
  unfolding name_bytes
  name_bytes_kept [] h = refl
  name_bytes_kept (i ∷ []) h = rw (record_bytes_kept i (every_head (λ l. eqb (rd l 0) k) i [] h).0)
  name_bytes_kept (i ∷ j ∷ js) h =
      let split = every_head (λ l. eqb (rd l 0) k) i (j ∷ js) h in
      rw (record_bytes_kept i split.0, name_bytes_kept (j ∷ js) split.1)

  has_bytes_same : (i : ℕ) → eqb (rd i 0) k ≡ true → has_bytes (copied rd) i ≡ has_bytes rd i
  unfolding has_bytes
  has_bytes_same i e = rw (word_kept i e 1, word_kept i e 2)

  has_bytes_kept : (xs : List ℕ) → every (λ l. eqb (rd l 0) k) xs ≡ true → every (has_bytes (copied rd)) xs ≡ every (has_bytes rd) xs
  has_bytes_kept xs h = every_where (has_bytes (copied rd)) (has_bytes rd) (λ l. eqb (rd l 0) k) has_bytes_same xs h

-- Symbols.

-- a record of a kind from 9 on is no symbol
pub name_of_none : (rd : Reader) (i : ℕ) → 9 ≤ rd i 0 → name_of rd i ≡ 0
unfolding name_of
name_of_none rd i h =
    when_different (rd i 1) _ (rd i 0) 3 (λ e. absurd (omega arith))
    ∙ when_different (rd i 2) _ (rd i 0) 7 (λ e. absurd (omega arith)) ∙ when_different (rd i 3) 0 (rd i 0) 8 (λ e. absurd (omega arith))

name_space_none : (k : ℕ) → 9 ≤ k → name_space k ≡ 0
unfolding name_space
name_space_none k h =
    when_different 1 _ k 3 (λ e. absurd (omega arith)) ∙ when_different 2 _ k 7 (λ e. absurd (omega arith))
    ∙ when_different 2 0 k 8 (λ e. absurd (omega arith))

-- a rule node is no symbol, and neither is ⊥ in its place
module _ (rd : Reader) (i : ℕ) where
  pub copied_name_of : name_of (copied rd) i ≡ name_of rd i
  unfolding name_of if_eq
  copied_name_of = go (is_rule 1 (rd i 0)) refl
    where
      go : (b : Bool) → is_rule 1 (rd i 0) ≡ b → name_of (copied rd) i ≡ name_of rd i
      go true e =
          let low : 32 ≤ rd i 0 = (rule_kind 1 (rd i 0) e).0 in
          let kind : copied rd i 0 ≡ 14 = copied_rule rd i 0 e in
          name_of_none (copied rd) i (omega arith) ∙ sym (name_of_none rd i (omega arith))
      go false e = rw (copied_word rd i 0 e, copied_word rd i 1 e, copied_word rd i 2 e, copied_word rd i 3 e)

  pub copied_name_space : name_space (copied rd i 0) ≡ name_space (rd i 0)
  unfolding if_eq
  copied_name_space = go (is_rule 1 (rd i 0)) refl
    where
      go : (b : Bool) → is_rule 1 (rd i 0) ≡ b → name_space (copied rd i 0) ≡ name_space (rd i 0)
      go true e =
          let low : 32 ≤ rd i 0 = (rule_kind 1 (rd i 0) e).0 in
          let kind : copied rd i 0 ≡ 14 = copied_rule rd i 0 e in
          name_space_none (copied rd i 0) (omega arith) ∙ sym (name_space_none (rd i 0) (omega arith))
      go false e = ap name_space (copied_word rd i 0 e)

-- The proof's records 1 to `last` have no faults.
module _ (rd : Reader) (last : ℕ) (sound : (i : ℕ) → 1 ≤ i → i ≤ last → Sound 1 rd i) where
  -- a chain that starts with a link, or with nothing
  module _ (c : ℕ) (h : c ≤ last) (link : (c ≡ 0 → ⊥) → class_at rd c ≡ 1) where
    pub chain_linked : linked (copied rd) c ≡ linked rd c
    chain_linked = linked_kept rd 1 link_plain c (links_are_links 1 rd last sound c h link)

    pub chain_items : items (copied rd) c ≡ items rd c
    chain_items = items_kept rd 1 link_plain c (links_are_links 1 rd last sound c h link)

  -- the names of record i
  module _ (i : ℕ) (p : 1 ≤ i) (h : i ≤ last) where
    own : Sound 1 rd i
    own = sound i p h

    -- a symbol's name starts with a name record
    name_class : (name_of rd i ≡ 0 → ⊥) → class_at rd (name_of rd i) ≡ 2
    unfolding name_of if_eq
    name_class = go (eqb (rd i 0) 3) refl (eqb (rd i 0) 7) refl (eqb (rd i 0) 8) refl
      where
        go : (a : Bool) → eqb (rd i 0) 3 ≡ a → (b : Bool) → eqb (rd i 0) 7 ≡ b → (c : Bool) → eqb (rd i 0) 8 ≡ c →
            (◌≡◌ {A = ℕ} (elim a [ true ↦ rd i 1 | false ↦ elim b [ true ↦ rd i 2 | false ↦ elim c [ true ↦ rd i 3 | false ↦ 0 ] ] ]) 0 → ⊥) →
            class_at rd (elim a [ true ↦ rd i 1 | false ↦ elim b [ true ↦ rd i 2 | false ↦ elim c [ true ↦ rd i 3 | false ↦ 0 ] ] ]) ≡ 2
        go true ea b eb c ec given = (given_type_first 1 rd i own (eqb-true (rd i 0) 3 ea)).class
        go false ea true eb c ec given = (constant_second 1 rd i own (eqb-true (rd i 0) 7 eb)).class
        go false ea false eb true ec given = (function_third 1 rd i own (eqb-true (rd i 0) 8 ec)).class
        go false ea false eb false ec given = absurd (given refl)

    -- the records of its name are name records
    name_records : every (λ l. eqb (rd l 0) 2) (linked rd (name_of rd i)) ≡ true
    name_records =
        let most : name_of rd i ≤ i = name_most 1 rd i own in
        names_are_names 1 rd last sound (name_of rd i) (omega arith) name_class

    pub copied_name_records : linked (copied rd) (name_of (copied rd) i) ≡ linked rd (name_of rd i)
    copied_name_records = ap (linked (copied rd)) (copied_name_of rd i) ∙ linked_kept rd 2 name_plain (name_of rd i) name_records

    pub copied_name : name (copied rd) i ≡ name rd i
    unfolding name
    copied_name = ap characters (ap (name_bytes (copied rd)) copied_name_records ∙ name_bytes_kept rd 2 name_plain (linked rd (name_of rd i)) name_records)

    pub copied_is_name : is_name (copied rd) i ≡ is_name rd i
    unfolding is_name
    copied_is_name =
        let bytes : every (has_bytes (copied rd)) (linked (copied rd) (name_of (copied rd) i)) ≡ every (has_bytes rd) (linked rd (name_of rd i)) =
        ap (every (has_bytes (copied rd))) copied_name_records ∙ has_bytes_kept rd 2 name_plain (linked rd (name_of rd i)) name_records in
        rw (bytes, copied_name)

  -- the same symbols have the same names
  copied_taken_below : (space : ℕ) (cs : List ℕ) (n : ℕ) → n ≤ last → taken_below (copied rd) space cs n ≡ taken_below rd space cs n
  unfolding taken_below
  copied_taken_below space cs zero h = refl
  copied_taken_below space cs (suc n) h =
      let rest : taken_below (copied rd) space cs n ≡ taken_below rd space cs n = copied_taken_below space cs n (omega arith) in
      let head : both (eqb (name_space (copied rd (suc n) 0)) space) (same_name (name (copied rd) (suc n)) cs)
      ≡ both (eqb (name_space (rd (suc n) 0)) space) (same_name (name rd (suc n)) cs) =
      rw (copied_name_space rd (suc n), copied_name (suc n) (omega arith) h) in
      either_same head rest

  pub copied_taken : (i : ℕ) → i ≤ last → name_taken (copied rd) i ≡ name_taken rd i
  unfolding name_taken
  copied_taken zero h = refl
  copied_taken (suc n) h =
      ap (λ (s : ℕ). taken_below (copied rd) s (name (copied rd) (suc n)) n) (copied_name_space rd (suc n))
      ∙ ap (λ (cs : List ℕ). taken_below (copied rd) (name_space (rd (suc n) 0)) cs n) (copied_name (suc n) (omega arith) h)
      ∙ copied_taken_below (name_space (rd (suc n) 0)) (name rd (suc n)) n (omega arith)
