-- Two readers that agree on records 0 to m say the same of each of them.
use Prim.Native.Nat.{ℕ, zero, suc, ◌<◌, ◌≤◌}
use Rattle.std.proofs.Math.Path.{◌≡◌, refl, sym, ap}
use Rattle.std.proofs.Common.{◌∙◌, arith, eqb-true, ltb-true, leb-true, le-leb}
use mathlib.Core.List.{List, [], ◌∷◌, map}
use Rattle.std.specs.Prelude.{Bool, not, ltb, length}
use Rattle.std.proofs.Math.Bool.{true, false}
use Rattle.std.proofs.Math.Dec.{eqb, leb}
use Rattle.reader.specs.Words.{Reader}
use Rattle.reader.specs.Tests.{both, every, if_eq, if_lt}
use Rattle.reader.specs.Kinds.{role, class_at, role_at}
use Rattle.reader.specs.Trees.{Tree, tree, lower, child, atom}
use Rattle.reader.specs.Chains.{linked, items, item_trees}
use Rattle.reader.specs.TreeLaws.{below, lower_below, child_below, tree_zero, tree_step_lem, linked_zero, linked_step_lem, items_zero, items_step}
use Rattle.reader.specs.Names.{name_of, name_space, record_bytes, name_bytes, characters, name, has_bytes, is_name, same_name, taken_below, name_taken}
use Rattle.reader.specs.Typing.{signature, function_typed, application_typed, typing_of, is_typed}
use Rattle.reader.specs.Records.{in_range, range_at, may_be_zero, wanted_class, item_class, has_class, items_have_class, refers, refers_at, name_length_fits, types_fit}
use Rattle.reader.specs.Records.{arguments_fit, item_chains_fit, weight_fits, name_spelled, name_is_free, typing_fits}
use Rattle.reader_laws.specs.Scan.{every_head}
use Rattle.reader_laws.specs.Record.{Sound, word_most, name_most}

-- the records of a list are at most m
abbrev pub Within : ℕ → List ℕ → Type 0
Within m xs = every (λ j. leb j m) xs ≡ true

every_both : {A : Type 0} (test : A → Bool) (x : A) (xs : List A) → every test (x ∷ xs) ≡ both (test x) (every test xs)
unfolding every both
every_both test x xs = refl

pub within_more : (m x : ℕ) (xs : List ℕ) → x ≤ m → Within m xs → Within m (x ∷ xs)
unfolding both
within_more m x xs p h = rw every_both (simp (both, le-leb x m p) h)

pub within_head : (m x : ℕ) (xs : List ℕ) → Within m (x ∷ xs) → x ≤ m
within_head m x xs h = leb-true x m (every_head (λ j. leb j m) x xs h).0

pub within_tail : (m x : ℕ) (xs : List ℕ) → Within m (x ∷ xs) → Within m xs
within_tail m x xs h = (every_head (λ j. leb j m) x xs h).1

-- a reference is to no larger record
pub lower_most : (rd : Reader) (i w : ℕ) → lower rd i w ≤ i
unfolding lower if_lt
lower_most rd i w = go (ltb (rd i w) i) refl
  where
    go : (b : Bool) → ltb (rd i w) i ≡ b → elim b as (λ x. ℕ) [ true ↦ rd i w | false ↦ 0 ] ≤ i
    go true e = let h : rd i w < i = ltb-true (rd i w) i e in omega arith
    go false e = omega arith

-- the records of a chain are no larger than the first
pub linked_within : (rd : Reader) (m c : ℕ) → c ≤ m → Within m (linked rd c)
unfolding every
linked_within rd m = below (λ c. c ≤ m → Within m (linked rd c)) step
  where
    step : (n : ℕ) → ((j : ℕ) → j < n → j ≤ m → Within m (linked rd j)) → n ≤ m → Within m (linked rd n)
    step zero f h = rw (linked_zero rd)
    step (suc n) f h =
        let less : lower rd (suc n) 3 < suc n = lower_below rd (suc n) 3 (omega arith) in
        rw (linked_step_lem rd (suc n) (omega arith)) (within_more m (suc n) (linked rd (lower rd (suc n) 3)) h (f (lower rd (suc n) 3) less (omega arith)))

pub items_within : (rd : Reader) (m c : ℕ) → c ≤ m → Within m (items rd c)
unfolding every
items_within rd m = below (λ c. c ≤ m → Within m (items rd c)) step
  where
    step : (n : ℕ) → ((j : ℕ) → j < n → j ≤ m → Within m (items rd j)) → n ≤ m → Within m (items rd n)
    step zero f h = rw (items_zero rd)
    step (suc n) f h =
        let less : lower rd (suc n) 3 < suc n = lower_below rd (suc n) 3 (omega arith) in
        let first : lower rd (suc n) 1 < suc n = lower_below rd (suc n) 1 (omega arith) in
        rw (items_step rd (suc n) (omega arith))
        (within_more m (lower rd (suc n) 1) (items rd (lower rd (suc n) 3)) (omega arith) (f (lower rd (suc n) 3) less (omega arith)))

-- tests, and functions, that agree on the records of a list
pub every_same : (m : ℕ) (t u : ℕ → Bool) (xs : List ℕ) → Within m xs → ((x : ℕ) → x ≤ m → t x ≡ u x) → every t xs ≡ every u xs
unfolding every
every_same m t u [] h f = refl
every_same m t u (x ∷ xs) h f =
    let head : t x ≡ u x = f x (within_head m x xs h) in
    let tail : every t xs ≡ every u xs = every_same m t u xs (within_tail m x xs h) f in
    every_both t x xs ∙ ap (λ (b : Bool). both b (every t xs)) head ∙ ap (both (u x)) tail ∙ sym (every_both u x xs)

pub map_same : (m : ℕ) (f g : ℕ → Tree) (xs : List ℕ) → Within m xs → ((x : ℕ) → x ≤ m → f x ≡ g x) → map f xs ≡ map g xs
map_same m f g [] h e = refl
map_same m f g (x ∷ xs) h e =
    let head : f x ≡ g x = e x (within_head m x xs h) in
    let tail : map f xs ≡ map g xs = map_same m f g xs (within_tail m x xs h) e in
    ap (λ (t : Tree). t ∷ map f xs) head ∙ ap (λ (ts : List Tree). g x ∷ ts) tail

both_same : (a x y : Bool) → (a ≡ true → x ≡ y) → both a x ≡ both a y
unfolding both
both_same true x y h = h refl
both_same false x y h = refl

either_same : {a b x y : Bool} → a ≡ b → x ≡ y → ◌≡◌ {A = Bool} (elim a [ true ↦ true | false ↦ x ]) (elim b [ true ↦ true | false ↦ y ])
either_same e q = cc

module _ (rd other : Reader) (m : ℕ) (agree : (i w : ℕ) → i ≤ m → rd i w ≡ other i w) where
  pub role_agrees : (i w : ℕ) → i ≤ m → role_at rd i w ≡ role_at other i w
  unfolding role_at
  role_agrees i w h = ap (λ (k : ℕ). role k w) (agree i 0 h)

  pub lower_agrees : (i w : ℕ) → i ≤ m → lower rd i w ≡ lower other i w
  unfolding lower
  lower_agrees i w h = ap (λ (a : ℕ). if_lt a i a 0) (agree i w h)

  pub child_agrees : (i w : ℕ) → i ≤ m → child rd i w ≡ child other i w
  unfolding child
  child_agrees i w h = rw (role_agrees i w h, lower_agrees i w h)

  pub atom_agrees : (i : ℕ) → i ≤ m → atom rd i ≡ atom other i
  unfolding atom
  atom_agrees i h = rw (agree i 0 h, role_agrees i 1 h, agree i 1 h)

  -- a record's tree
  pub tree_agrees : (j : ℕ) → j ≤ m → tree rd j ≡ tree other j
  tree_agrees = below (λ j. j ≤ m → tree rd j ≡ tree other j) step
    where
      step : (n : ℕ) → ((j : ℕ) → j < n → j ≤ m → tree rd j ≡ tree other j) → n ≤ m → tree rd n ≡ tree other n
      step zero f h = tree_zero rd ∙ sym (tree_zero other)
      step (suc n) f h =
          let l1 : child rd (suc n) 1 < suc n = child_below rd (suc n) 1 (omega arith) in
          let l2 : child rd (suc n) 2 < suc n = child_below rd (suc n) 2 (omega arith) in
          let l3 : child rd (suc n) 3 < suc n = child_below rd (suc n) 3 (omega arith) in
          let e1 : tree rd (child rd (suc n) 1) ≡ tree other (child other (suc n) 1) =
          f (child rd (suc n) 1) l1 (omega arith) ∙ ap (tree other) (child_agrees (suc n) 1 h) in
          let e2 : tree rd (child rd (suc n) 2) ≡ tree other (child other (suc n) 2) =
          f (child rd (suc n) 2) l2 (omega arith) ∙ ap (tree other) (child_agrees (suc n) 2 h) in
          let e3 : tree rd (child rd (suc n) 3) ≡ tree other (child other (suc n) 3) =
          f (child rd (suc n) 3) l3 (omega arith) ∙ ap (tree other) (child_agrees (suc n) 3 h) in
          rw (tree_step_lem rd (suc n) (omega arith), tree_step_lem other (suc n) (omega arith), agree (suc n) 0 h, atom_agrees (suc n) h, e1, e2, e3)

  -- the records of a chain
  pub linked_agrees : (j : ℕ) → j ≤ m → linked rd j ≡ linked other j
  linked_agrees = below (λ j. j ≤ m → linked rd j ≡ linked other j) step
    where
      step : (n : ℕ) → ((j : ℕ) → j < n → j ≤ m → linked rd j ≡ linked other j) → n ≤ m → linked rd n ≡ linked other n
      step zero f h = linked_zero rd ∙ sym (linked_zero other)
      step (suc n) f h =
          let less : lower rd (suc n) 3 < suc n = lower_below rd (suc n) 3 (omega arith) in
          let rest : linked rd (lower rd (suc n) 3) ≡ linked other (lower other (suc n) 3) =
          f (lower rd (suc n) 3) less (omega arith) ∙ ap (linked other) (lower_agrees (suc n) 3 h) in
          linked_step_lem rd (suc n) (omega arith) ∙ ap (λ (xs : List ℕ). suc n ∷ xs) rest ∙ sym (linked_step_lem other (suc n) (omega arith))

  -- the items of a chain
  pub items_agrees : (j : ℕ) → j ≤ m → items rd j ≡ items other j
  items_agrees = below (λ j. j ≤ m → items rd j ≡ items other j) step
    where
      step : (n : ℕ) → ((j : ℕ) → j < n → j ≤ m → items rd j ≡ items other j) → n ≤ m → items rd n ≡ items other n
      step zero f h = items_zero rd ∙ sym (items_zero other)
      step (suc n) f h =
          let less : lower rd (suc n) 3 < suc n = lower_below rd (suc n) 3 (omega arith) in
          let rest : items rd (lower rd (suc n) 3) ≡ items other (lower other (suc n) 3) =
          f (lower rd (suc n) 3) less (omega arith) ∙ ap (items other) (lower_agrees (suc n) 3 h) in
          items_step rd (suc n) (omega arith) ∙ ap (λ (xs : List ℕ). lower rd (suc n) 1 ∷ xs) rest
          ∙ ap (λ (x : ℕ). x ∷ items other (lower other (suc n) 3)) (lower_agrees (suc n) 1 h) ∙ sym (items_step other (suc n) (omega arith))

  -- their trees
  pub item_trees_agree : (j : ℕ) → j ≤ m → item_trees rd j ≡ item_trees other j
  unfolding item_trees
  item_trees_agree j h =
      map_same m (tree rd) (tree other) (items rd j) (items_within rd m j h) tree_agrees ∙ ap (map (tree other)) (items_agrees j h)

  -- references
  pub class_agrees : (c j : ℕ) → j ≤ m → has_class rd c j ≡ has_class other c j
  unfolding has_class class_at
  class_agrees c j h = rw (agree j 0 h)

  pub items_class_agrees : (c j : ℕ) → j ≤ m → items_have_class rd c j ≡ items_have_class other c j
  unfolding items_have_class
  items_class_agrees c j h =
      let e : every (has_class rd c) (items rd j) ≡ every (has_class other c) (items other j) =
      every_same m (has_class rd c) (has_class other c) (items rd j) (items_within rd m j h) (class_agrees c)
      ∙ ap (every (has_class other c)) (items_agrees j h) in
      ap (λ (b : Bool). if_eq c 0 true b) e

  refers_agrees : (i r a : ℕ) → i ≤ m → refers rd i r a ≡ refers other i r a
  unfolding refers
  refers_agrees i r a h =
      let e : both (ltb a i) (both (has_class rd (wanted_class r) a) (items_have_class rd (item_class r) a))
      ≡ both (ltb a i) (both (has_class other (wanted_class r) a) (items_have_class other (item_class r) a)) =
      both_same (ltb a i) _ _ (λ l. go (ltb-true a i l)) in
      ap (λ (b : Bool). if_lt r 6 true (if_eq a 0 (may_be_zero r) b)) e
    where
      go : a < i → both (has_class rd (wanted_class r) a) (items_have_class rd (item_class r) a)
          ≡ both (has_class other (wanted_class r) a) (items_have_class other (item_class r) a)
      go l = rw (class_agrees (wanted_class r) a (omega arith), items_class_agrees (item_class r) a (omega arith))

  pub refers_at_agrees : (i w : ℕ) → i ≤ m → refers_at rd i w ≡ refers_at other i w
  unfolding refers_at
  refers_at_agrees i w h =
      refers_agrees i (role_at rd i w) (rd i w) h ∙ ap (λ (r : ℕ). refers other i r (rd i w)) (role_agrees i w h)
      ∙ ap (λ (a : ℕ). refers other i (role_at other i w) a) (agree i w h)

  pub range_at_agrees : (i w : ℕ) → i ≤ m → range_at rd i w ≡ range_at other i w
  unfolding range_at
  range_at_agrees i w h = ap (λ (r : ℕ). in_range r (rd i w)) (role_agrees i w h) ∙ ap (λ (a : ℕ). in_range (role_at other i w) a) (agree i w h)

  -- typing
  pub signature_agrees : (f : ℕ) → f ≤ m → signature rd f ≡ signature other f
  unfolding signature
  signature_agrees f h =
      let most : lower rd f 1 ≤ f = lower_most rd f 1 in
      item_trees_agree (lower rd f 1) (omega arith) ∙ ap (item_trees other) (lower_agrees f 1 h)

  pub function_typed_agrees : (f : ℕ) → f ≤ m → function_typed rd f ≡ function_typed other f
  unfolding function_typed
  function_typed_agrees f h = rw (agree f 2 h, signature_agrees f h)

  pub application_typed_agrees : (i : ℕ) → i ≤ m → application_typed rd i ≡ application_typed other i
  unfolding application_typed
  application_typed_agrees i h =
      let m1 : lower rd i 1 ≤ i = lower_most rd i 1 in
      let m2 : lower rd i 2 ≤ i = lower_most rd i 2 in
      let m3 : lower rd i 3 ≤ i = lower_most rd i 3 in
      let e1 : rd (lower rd i 1) 2 ≡ other (lower other i 1) 2 =
      agree (lower rd i 1) 2 (omega arith) ∙ ap (λ (x : ℕ). other x 2) (lower_agrees i 1 h) in
      let e2 : item_trees rd (lower rd i 2) ≡ item_trees other (lower other i 2) =
      item_trees_agree (lower rd i 2) (omega arith) ∙ ap (item_trees other) (lower_agrees i 2 h) in
      let e3 : item_trees rd (lower rd i 3) ≡ item_trees other (lower other i 3) =
      item_trees_agree (lower rd i 3) (omega arith) ∙ ap (item_trees other) (lower_agrees i 3 h) in
      let e4 : signature rd (lower rd i 1) ≡ signature other (lower other i 1) =
      signature_agrees (lower rd i 1) (omega arith) ∙ ap (signature other) (lower_agrees i 1 h) in
      rw (e1, e2, e3, e4)

  pub typed_agrees : (i : ℕ) → i ≤ m → is_typed rd i ≡ is_typed other i
  unfolding is_typed typing_of
  typed_agrees i h = rw (agree i 0 h, tree_agrees i h, function_typed_agrees i h, application_typed_agrees i h)

  -- names
  pub name_of_agrees : (i : ℕ) → i ≤ m → name_of rd i ≡ name_of other i
  unfolding name_of
  name_of_agrees i h = rw (agree i 0 h, agree i 1 h, agree i 2 h, agree i 3 h)

  record_bytes_agree : (i : ℕ) → i ≤ m → record_bytes rd i ≡ record_bytes other i
  unfolding record_bytes
  record_bytes_agree i h = rw (agree i 1 h, agree i 2 h)

  name_bytes_agree : (xs : List ℕ) → Within m xs → name_bytes rd xs ≡ name_bytes other xs
  unfolding name_bytes
  name_bytes_agree [] h = refl
  name_bytes_agree (i ∷ []) h = rw (record_bytes_agree i (within_head m i [] h))
  name_bytes_agree (i ∷ j ∷ js) h =
      rw (record_bytes_agree i (within_head m i (j ∷ js) h), name_bytes_agree (j ∷ js) (within_tail m i (j ∷ js) h))

  has_bytes_agrees : (i : ℕ) → i ≤ m → has_bytes rd i ≡ has_bytes other i
  unfolding has_bytes
  has_bytes_agrees i h = rw (agree i 1 h, agree i 2 h)

  module _ (i : ℕ) (h : i ≤ m) (near : name_of rd i ≤ m) where
    pub name_records_agree : linked rd (name_of rd i) ≡ linked other (name_of other i)
    name_records_agree = linked_agrees (name_of rd i) near ∙ ap (linked other) (name_of_agrees i h)

    pub name_agrees : name rd i ≡ name other i
    unfolding name
    name_agrees =
        ap characters (name_bytes_agree (linked rd (name_of rd i)) (linked_within rd m (name_of rd i) near)
        ∙ ap (name_bytes other) name_records_agree)

    pub is_name_agrees : is_name rd i ≡ is_name other i
    unfolding is_name
    is_name_agrees =
        let e : every (has_bytes rd) (linked rd (name_of rd i)) ≡ every (has_bytes other) (linked other (name_of other i)) =
        every_same m (has_bytes rd) (has_bytes other) (linked rd (name_of rd i)) (linked_within rd m (name_of rd i) near) has_bytes_agrees
        ∙ ap (every (has_bytes other)) name_records_agree in
        rw (e, name_agrees)

  taken_agrees : (space : ℕ) (cs : List ℕ) (n : ℕ) → n ≤ m → ((j : ℕ) → 1 ≤ j → j ≤ n → name_of rd j ≤ m) →
      taken_below rd space cs n ≡ taken_below other space cs n
  unfolding taken_below
  taken_agrees space cs zero h near = refl
  taken_agrees space cs (suc n) h near =
      let rest : taken_below rd space cs n ≡ taken_below other space cs n =
      taken_agrees space cs n (omega arith) (λ j p q. near j p (omega arith)) in
      let head : both (eqb (name_space (rd (suc n) 0)) space) (same_name (name rd (suc n)) cs)
      ≡ both (eqb (name_space (other (suc n) 0)) space) (same_name (name other (suc n)) cs) =
      rw (agree (suc n) 0 h, name_agrees (suc n) h (near (suc n) (omega arith) (omega arith))) in
      either_same head rest

  pub name_taken_agrees : (i : ℕ) → i ≤ m → ((j : ℕ) → 1 ≤ j → j ≤ i → name_of rd j ≤ m) → name_taken rd i ≡ name_taken other i
  unfolding name_taken
  name_taken_agrees zero h near = refl
  name_taken_agrees (suc n) h near =
      taken_agrees (name_space (rd (suc n) 0)) (name rd (suc n)) n (omega arith) (λ j p q. near j p (omega arith))
      ∙ ap (λ (k : ℕ). taken_below other (name_space k) (name rd (suc n)) n) (agree (suc n) 0 h)
      ∙ ap (λ (cs : List ℕ). taken_below other (name_space (other (suc n) 0)) cs n) (name_agrees (suc n) h (near (suc n) (omega arith) (omega arith)))

  -- A record without a fault has none through the other reader.
  module _ (mode : ℕ) (all : (j : ℕ) → 1 ≤ j → j ≤ m → Sound mode rd j) (i : ℕ) (p : 1 ≤ i) (h : i ≤ m) where
    own : Sound mode rd i
    own = all i p h

    near : (j : ℕ) → 1 ≤ j → j ≤ i → name_of rd j ≤ m
    near j q l = let most : name_of rd j ≤ j = name_most mode rd j (all j q (omega arith)) in omega arith

    chain_agrees : (k w : ℕ) → rd i 0 ≡ k → 6 ≤ role k w → 1 ≤ w → w ≤ 3 → linked rd (rd i w) ≡ linked other (other i w)
    chain_agrees k w e r a b =
        let most : rd i w ≤ i = word_most mode rd i own k w e r a b in
        linked_agrees (rd i w) (omega arith) ∙ ap (linked other) (agree i w h)

    function_chain : rd i 0 ≡ 8 → types_fit rd (rd i 1) ≡ types_fit other (other i 1)
    unfolding types_fit role if_lt if_eq
    function_chain e = rw (chain_agrees 8 1 e (omega arith) (omega arith) (omega arith))

    application_chain : rd i 0 ≡ 13 → both (types_fit rd (rd i 2)) (arguments_fit rd (rd i 3)) ≡ both (types_fit other (other i 2)) (arguments_fit other (other i 3))
    unfolding types_fit arguments_fit role if_lt if_eq
    application_chain e = rw (chain_agrees 13 2 e (omega arith) (omega arith) (omega arith), chain_agrees 13 3 e (omega arith) (omega arith) (omega arith))

    chains_agree : item_chains_fit rd i ≡ item_chains_fit other i
    unfolding item_chains_fit if_eq
    chains_agree =
        go (eqb (rd i 0) 8) refl (eqb (rd i 0) 13) refl
        ∙ ap (λ (k : ℕ). if_eq k 8 (types_fit other (other i 1)) (if_eq k 13 (both (types_fit other (other i 2)) (arguments_fit other (other i 3))) true)) (agree i 0 h)
      where
        go : (a : Bool) → eqb (rd i 0) 8 ≡ a → (b : Bool) → eqb (rd i 0) 13 ≡ b →
            ◌≡◌ {A = Bool}
            (elim a [ true ↦ types_fit rd (rd i 1) | false ↦ elim b [ true ↦ both (types_fit rd (rd i 2)) (arguments_fit rd (rd i 3)) | false ↦ true ] ])
            (elim a [ true ↦ types_fit other (other i 1) | false ↦ elim b [ true ↦ both (types_fit other (other i 2)) (arguments_fit other (other i 3)) | false ↦ true ] ])
        go true ea b eb = function_chain (eqb-true (rd i 0) 8 ea)
        go false ea true eb = application_chain (eqb-true (rd i 0) 13 eb)
        go false ea false eb = refl

    stands_agrees : name_spelled rd i ≡ name_spelled other i
    unfolding name_spelled if_eq
    stands_agrees =
        ap (λ (n : ℕ). if_eq n 0 true (is_name rd i)) (name_of_agrees i h)
        ∙ ap (λ (b : Bool). if_eq (name_of other i) 0 true b) (is_name_agrees i h (near i p (omega arith)))

    free_agrees : name_is_free rd i ≡ name_is_free other i
    unfolding name_is_free if_eq
    free_agrees =
        ap (λ (n : ℕ). if_eq n 0 true (not (name_taken rd i))) (name_of_agrees i h)
        ∙ ap (λ (b : Bool). if_eq (name_of other i) 0 true (not b)) (name_taken_agrees i h near)

    pub sound_agrees : Sound mode other i
    unfolding name_length_fits weight_fits typing_fits
    sound_agrees = record {
      kind = rw (← agree i 0 h) own.kind;
      range = λ w a b. sym (range_at_agrees i w h) ∙ own.range w a b;
      reference = λ w a b. sym (refers_at_agrees i w h) ∙ own.reference w a b;
      name_length = ap (λ (xs : List ℕ). leb (length xs) 4) (sym (name_records_agree i h (near i p (omega arith)))) ∙ own.name_length;
      chains = sym chains_agree ∙ own.chains;
      weighs = rw (← agree i 0 h, ← tree_agrees i h) own.weighs;
      named = sym stands_agrees ∙ own.named;
      free = sym free_agrees ∙ own.free;
      typed = rw (← typed_agrees i h) own.typed;
    }
