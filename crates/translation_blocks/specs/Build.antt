-- From the records of a block to nodes of a derivation: what a record is, the trees of a block's own formulas, and a law for each rule that the blocks use.
use Rattle.std.specs.Prelude.{ℕ, suc, ◌+◌, ◌<◌, ◌≤◌, ◌≡◌, List, [], ◌∷◌, true, ltb, get_or, length}
use Rattle.std.proofs.Math.Path.{refl, ap}
use Rattle.std.proofs.Common.{subst, ◌∙◌, length-append, arith, ltb-true}
use Rattle.reader.specs.Words.{Reader}
use Rattle.reader.specs.Tests.{if_eq, if_lt, if_true}
use Rattle.reader.specs.Kinds.{is_symbol, is_number, role, role_at}
use Rattle.reader.specs.Trees.{Tree, leaf, node, lower, child, atom, ⊥ᵗ, ◌∧ᵗ◌, ◌⇒ᵗ◌, ¬ᵗ◌, ◌=ᵗ◌}
use Rattle.reader.specs.TreeLaws.{tree_zero, tree_step_lem}
use Rattle.reader.specs.Members.{◌▹◌}
use Rattle.reader.specs.Notions.{◌∈◌, IsTerm, IsFormula, ◌⟨◌⟩, NoIndex, OpenInZero, Fresh}
use Rattle.reader_laws.specs.Scan.{when_less}
use Rattle.derivation_rules.specs.Erase.{⌊◌⌋, bare, untyped, is_type, bare_tree, constantᵇ, ∀ᵇ}
use Rattle.derivation_meaning.specs.Derives.{DerivationNode, Derives}
use Rattle.derivation_meaning.proofs.Intro.{no_links, one_link, link_more, node_at}
use Rattle.translation_rules.specs.Templates.{Line}
use Rattle.translation_rules.specs.Output.{Letters, value, line_word, no_line, Block}

-- Record r of a reader has the words k, a, b, c.
pub record Is (ro : Reader) (r k a b c : ℕ) : Type 0 where
  pub kind : ro r 0 ≡ k
  pub first : ro r 1 ≡ a
  pub second : ro r 2 ≡ b
  pub third : ro r 3 ≡ c

-- Record r of a block is a line of its template: at a literal r the four words compute, with `unfolding value`.
abbrev pub Written : Reader → Reader → Letters → ℕ → Line → Type 0
Written rd ro l r x = Is ro (l.base + r) x.kind (value rd l x.first) (value rd l x.second) (value rd l x.third)

pub line_is : (rd ro : Reader) (l : Letters) (lines : List Line) → Block rd ro l lines → (r : ℕ) → ltb r (length lines) ≡ true →
    Written rd ro l r (get_or lines r no_line)
unfolding line_word if_eq
line_is rd ro l lines block r h =
    let within : r < length lines = ltb-true r (length lines) h in
    record { kind = block r 0 within; first = block r 1 within; second = block r 2 within; third = block r 3 within }

-- The room below a translated node: the side branches of a block add at most two members and four levels.
pub record Room (Γ : List Tree) (d : ℕ) : Type 0 where
  pub members : length Γ + 2 ≤ 2048
  pub depth : d + 4 ≤ 8192

-- the limits of one node
abbrev pub Limits : List Tree → ℕ → Type 0
Limits Γ d = (length Γ ≤ 2048) × (d ≤ 8192)

-- at depth e, with no, one or two members more
module _ {Γ : List Tree} {d e : ℕ} (room : Room Γ d) (h : e ≤ d + 4) where
  pub room_0 : Limits Γ e
  room_0 = omega arith

  pub room_1 : (A : Tree) → Limits (Γ ▹ A) e
  room_1 A = omega (arith, length-append Γ (A ∷ []))

  pub room_2 : (A B : Tree) → Limits (Γ ▹ A ▹ B) e
  room_2 A B = omega (arith, length-append Γ (A ∷ []), length-append (Γ ▹ A) (B ∷ []))

-- A premise two or three levels below a block's concluding node, as the rules count levels.
module _ {ro : Reader} {Γ : List Tree} {P : Tree} {n k : ℕ} (d : ℕ) where
  pub level_2 : Derives ro Γ P (d + 2) n k → Derives ro Γ P (d + 1 + 1) n k
  level_2 h = let e : d + 2 ≡ d + 1 + 1 = omega arith in subst (λ (j : ℕ). Derives ro Γ P j n k) e h

  pub level_3 : Derives ro Γ P (d + 3) n k → Derives ro Γ P (d + 1 + 1 + 1) n k
  level_3 h = let e : d + 3 ≡ d + 1 + 1 + 1 = omega arith in subst (λ (j : ℕ). Derives ro Γ P j n k) e h

-- The trees of a block's own formulas, types removed.

module _ (ro : Reader) (r k : ℕ) (e : ro r 0 ≡ k) where
  child_at : (w : ℕ) → child ro r w ≡ if_lt (role k w) 10 0 (lower ro r w)
  unfolding child role_at
  child_at w = ap (λ (k : ℕ). if_lt (role k w) 10 0 (lower ro r w)) e

  atom_at : atom ro r ≡ if_true (is_symbol k) r (if_true (is_number (role k 1)) (ro r 1) 0)
  unfolding atom role_at
  atom_at = ap (λ (k : ℕ). if_true (is_symbol k) r (if_true (is_number (role k 1)) (ro r 1) 0)) e

bare_zero : (ro : Reader) → bare_tree ro 0 ≡ leaf
unfolding bare_tree ⌊◌⌋
bare_zero ro = ap ⌊◌⌋ (tree_zero ro)

bare_step : (ro : Reader) (r : ℕ) → 0 < r →
    bare_tree ro r ≡ bare (ro r 0) (atom ro r) (bare_tree ro (child ro r 1)) (bare_tree ro (child ro r 2)) (bare_tree ro (child ro r 3))
unfolding bare_tree ⌊◌⌋
bare_step ro r p = ap ⌊◌⌋ (tree_step_lem ro r p)

-- a record of kind k, from its atom and its parts
bare_of : (ro : Reader) (r k a : ℕ) (x y z : Tree) → 0 < r → ro r 0 ≡ k → atom ro r ≡ a →
    bare_tree ro (child ro r 1) ≡ x → bare_tree ro (child ro r 2) ≡ y → bare_tree ro (child ro r 3) ≡ z → bare_tree ro r ≡ bare k a x y z
bare_of ro r k a x y z p e f one two three = bare_step ro r p ∙ rw (e, f, one, two, three) refl

lower_is : (ro : Reader) (i w a : ℕ) → ro i w ≡ a → a < i → lower ro i w ≡ a
unfolding lower
lower_is ro i w a e h = let l : ro i w < i = rw e h in when_less (ro i w) 0 (ro i w) i l ∙ e

module _ (ro : Reader) (r : ℕ) where
  pub not_tree : (a : ℕ) {P : Tree} → a < r → Is ro r 18 a 0 0 → bare_tree ro a ≡ P → bare_tree ro r ≡ ¬ᵗ P
  unfolding bare untyped is_type role is_symbol is_number if_eq if_lt if_true
  not_tree a {P = P} h own e =
      bare_of ro r 18 0 P leaf leaf (omega arith) own.kind (atom_at ro r 18 own.kind)
      (ap (bare_tree ro) (child_at ro r 18 own.kind 1 ∙ lower_is ro r 1 a own.first h) ∙ e)
      (ap (bare_tree ro) (child_at ro r 18 own.kind 2) ∙ bare_zero ro) (ap (bare_tree ro) (child_at ro r 18 own.kind 3) ∙ bare_zero ro)

  pub equal_tree : (a b : ℕ) {E F : Tree} → (a < r) × (b < r) → Is ro r 20 a b 0 → bare_tree ro a ≡ E → bare_tree ro b ≡ F → bare_tree ro r ≡ E =ᵗ F
  unfolding bare untyped is_type role is_symbol is_number if_eq if_lt if_true
  equal_tree a b {E = E} {F = F} h own e f =
      bare_of ro r 20 0 E F leaf (omega arith) own.kind (atom_at ro r 20 own.kind)
      (ap (bare_tree ro) (child_at ro r 20 own.kind 1 ∙ lower_is ro r 1 a own.first h.0) ∙ e)
      (ap (bare_tree ro) (child_at ro r 20 own.kind 2 ∙ lower_is ro r 2 b own.second h.1) ∙ f)
      (ap (bare_tree ro) (child_at ro r 20 own.kind 3) ∙ bare_zero ro)

  -- index 0, of whatever type
  pub index_tree : (b : ℕ) → 0 < r → Is ro r 9 0 b 0 → bare_tree ro r ≡ node 9 0 leaf leaf leaf
  unfolding bare untyped is_type role is_symbol is_number if_eq if_lt if_true
  index_tree b h own =
      bare_of ro r 9 0 leaf (bare_tree ro (child ro r 2)) leaf h own.kind (atom_at ro r 9 own.kind ∙ own.first)
      (ap (bare_tree ro) (child_at ro r 9 own.kind 1) ∙ bare_zero ro) refl (ap (bare_tree ro) (child_at ro r 9 own.kind 3) ∙ bare_zero ro)

-- Nodes of each number of parts and premises: n is the node, l, m, o are the links of its parts p, q, s, and c, f are those of its premises x, y.
module _ (ro : Reader) {Γ : List Tree} {d : ℕ} (limits : Limits Γ d) (k n : ℕ) where
  node_00 : 0 < n → Is ro n k 0 0 0 → DerivationNode ro n k [] [] Γ d
  node_00 h own =
      node_at ro n k 0 0 [] [] [] Γ d own.kind own.first own.second (h, h) (no_links ro) (no_links ro) refl limits

  node_01 : (c x : ℕ) → (c < n) × (x < c) → Is ro n k 0 c 0 → Is ro c 1 x 0 0 → DerivationNode ro n k [] (x ∷ []) Γ d
  node_01 c x h own link =
      node_at ro n k 0 c [] (x ∷ []) [] Γ d own.kind own.first own.second (omega arith) (no_links ro)
      (one_link ro c x link.first link.third h.1) refl limits

  node_02 : (c x f y : ℕ) → (c < n) × (x < c) × (f < c) × (y < f) → Is ro n k 0 c 0 → Is ro c 1 x 0 f → Is ro f 1 y 0 0 →
      DerivationNode ro n k [] (x ∷ y ∷ []) Γ d
  node_02 c x f y h own link last =
      node_at ro n k 0 c [] (x ∷ y ∷ []) [] Γ d own.kind own.first own.second (omega arith) (no_links ro)
      (link_more ro c x f (y ∷ []) link.first link.third (h.1, h.2) (one_link ro f y last.first last.third h.3)) refl limits

  module _ (l p : ℕ) {P : Tree} where
    node_11 : (c x : ℕ) → (l < n) × (p < l) × (c < n) × (x < c) → Is ro n k l c 0 → Is ro l 1 p 0 0 → Is ro c 1 x 0 0 → bare_tree ro p ≡ P →
        DerivationNode ro n k (P ∷ []) (x ∷ []) Γ d
    node_11 c x h own parts link e =
        node_at ro n k l c (p ∷ []) (x ∷ []) (P ∷ []) Γ d own.kind own.first own.second (h.0, h.2)
        (one_link ro l p parts.first parts.third h.1) (one_link ro c x link.first link.third h.3) (ap (λ t. t ∷ []) e) limits

    node_12 : (c x f y : ℕ) → (l < n) × (p < l) × (c < n) × (x < c) × (f < c) × (y < f) →
        Is ro n k l c 0 → Is ro l 1 p 0 0 → Is ro c 1 x 0 f → Is ro f 1 y 0 0 → bare_tree ro p ≡ P → DerivationNode ro n k (P ∷ []) (x ∷ y ∷ []) Γ d
    node_12 c x f y h own parts link last e =
        node_at ro n k l c (p ∷ []) (x ∷ y ∷ []) (P ∷ []) Γ d own.kind own.first own.second (h.0, h.2)
        (one_link ro l p parts.first parts.third h.1)
        (link_more ro c x f (y ∷ []) link.first link.third (h.3, h.4) (one_link ro f y last.first last.third h.5))
        (ap (λ t. t ∷ []) e) limits

    module _ (m q : ℕ) {Q : Tree} where
      node_21 : (c x : ℕ) → (l < n) × (p < l) × (m < l) × (q < m) × (c < n) × (x < c) →
          Is ro n k l c 0 → Is ro l 1 p 0 m → Is ro m 1 q 0 0 → Is ro c 1 x 0 0 → bare_tree ro p ≡ P → bare_tree ro q ≡ Q →
          DerivationNode ro n k (P ∷ Q ∷ []) (x ∷ []) Γ d
      node_21 c x h own parts more link e g =
          node_at ro n k l c (p ∷ q ∷ []) (x ∷ []) (P ∷ Q ∷ []) Γ d own.kind own.first own.second (h.0, h.4)
          (link_more ro l p m (q ∷ []) parts.first parts.third (h.1, h.2) (one_link ro m q more.first more.third h.3))
          (one_link ro c x link.first link.third h.5) (rw (e, g) refl) limits

      node_32 : (o s : ℕ) {S : Tree} (c x f y : ℕ) →
          (l < n) × (p < l) × (m < l) × (q < m) × (o < m) × (s < o) × (c < n) × (x < c) × (f < c) × (y < f) →
          Is ro n k l c 0 → Is ro l 1 p 0 m → Is ro m 1 q 0 o → Is ro o 1 s 0 0 → Is ro c 1 x 0 f → Is ro f 1 y 0 0 →
          bare_tree ro p ≡ P → bare_tree ro q ≡ Q → bare_tree ro s ≡ S → DerivationNode ro n k (P ∷ Q ∷ S ∷ []) (x ∷ y ∷ []) Γ d
      node_32 o s {S = S} c x f y h own parts more rest link last e g t =
          node_at ro n k l c (p ∷ q ∷ s ∷ []) (x ∷ y ∷ []) (P ∷ Q ∷ S ∷ []) Γ d own.kind own.first own.second (h.0, h.6)
          (link_more ro l p m (q ∷ s ∷ []) parts.first parts.third (h.1, h.2)
          (link_more ro m q o (s ∷ []) more.first more.third (h.3, h.4) (one_link ro o s rest.first rest.third h.5)))
          (link_more ro c x f (y ∷ []) link.first link.third (h.7, h.8) (one_link ro f y last.first last.third h.9))
          (rw (e, g, t) refl) limits

-- The rules, in the order of figure 1, with the letters as above. Each takes the order of its records as one product, its own record, the links of its
-- parts and of its premises, the trees of its parts, what the rule asks of them, and the derivations of its premises.
module _ (ro : Reader) {Γ : List Tree} (d : ℕ) (limits : Limits Γ d) (n : ℕ) where
  pub BR3-at : {P : Tree} → 0 < n → Is ro n 66 0 0 0 → P ∈ Γ → Derives ro Γ P d n 1
  BR3-at h own m = Derives.BR3 (node_00 ro limits 66 n h own) m

  pub BR6-at : 0 < n → Is ro n 68 0 0 0 → Derives ro Γ (¬ᵗ ⊥ᵗ) d n 1
  BR6-at h own = Derives.BR6 (node_00 ro limits 68 n h own)

  pub R10-at : {E : Tree} → 0 < n → Is ro n 80 0 0 0 → Derives ro Γ (E =ᵗ E) d n 1
  R10-at h own = Derives.R10 (node_00 ro limits 80 n h own)

  pub R3-at : {P Q : Tree} {i : ℕ} (c x : ℕ) → (c < n) × (x < c) → Is ro n 73 0 c 0 → Is ro c 1 x 0 0 →
      Derives ro (Γ ▹ P) Q (d + 1) x i → Derives ro Γ (P ⇒ᵗ Q) d n (suc i)
  R3-at c x h own link a = Derives.R3 (node_01 ro limits 73 n c x h own link) a

  pub R1-at : {P Q : Tree} {i j : ℕ} (c x f y : ℕ) → (c < n) × (x < c) × (f < c) × (y < f) →
      Is ro n 70 0 c 0 → Is ro c 1 x 0 f → Is ro f 1 y 0 0 →
      Derives ro Γ P (d + 1) x i → Derives ro Γ Q (d + 1) y j → Derives ro Γ (P ∧ᵗ Q) d n (suc (i + j))
  R1-at c x f y h own link last a b = Derives.R1 (node_02 ro limits 70 n c x f y h own link last) a b

  -- one part
  module _ (l p : ℕ) where
    pub R2-at : {P Q : Tree} {i : ℕ} (c x : ℕ) → (l < n) × (p < l) × (c < n) × (x < c) →
        Is ro n 71 l c 0 → Is ro l 1 p 0 0 → Is ro c 1 x 0 0 → bare_tree ro p ≡ P ∧ᵗ Q → NoIndex (P ∧ᵗ Q) →
        Derives ro Γ (P ∧ᵗ Q) (d + 1) x i → Derives ro Γ P d n (suc i)
    R2-at c x h own parts link e closed a = Derives.R2 (node_11 ro limits 71 n l p c x h own parts link e) closed a

    pub R2'-at : {P Q : Tree} {i : ℕ} (c x : ℕ) → (l < n) × (p < l) × (c < n) × (x < c) →
        Is ro n 72 l c 0 → Is ro l 1 p 0 0 → Is ro c 1 x 0 0 → bare_tree ro p ≡ P ∧ᵗ Q → NoIndex (P ∧ᵗ Q) →
        Derives ro Γ (P ∧ᵗ Q) (d + 1) x i → Derives ro Γ Q d n (suc i)
    R2'-at c x h own parts link e closed a = Derives.R2' (node_11 ro limits 72 n l p c x h own parts link e) closed a

    -- and two premises
    module _ (c x f y : ℕ) (h : (l < n) × (p < l) × (c < n) × (x < c) × (f < c) × (y < f)) where
      pub BR4-at : {P Q : Tree} {i j : ℕ} → Is ro n 67 l c 0 → Is ro l 1 p 0 0 → Is ro c 1 x 0 f → Is ro f 1 y 0 0 →
          bare_tree ro p ≡ P → IsFormula P → NoIndex P →
          Derives ro Γ P (d + 1) x i → Derives ro (Γ ▹ P) Q (d + 1) y j → Derives ro Γ Q d n (suc (i + j))
      BR4-at own parts link last e formula closed a b =
          Derives.BR4 (node_12 ro limits 67 n l p c x f y h own parts link last e) formula closed a b

      pub MP-at : {P Q : Tree} {i j : ℕ} → Is ro n 69 l c 0 → Is ro l 1 p 0 0 → Is ro c 1 x 0 f → Is ro f 1 y 0 0 →
          bare_tree ro p ≡ P ⇒ᵗ Q → NoIndex (P ⇒ᵗ Q) →
          Derives ro Γ P (d + 1) x i → Derives ro Γ (P ⇒ᵗ Q) (d + 1) y j → Derives ro Γ Q d n (suc (i + j))
      MP-at own parts link last e closed a b = Derives.MP (node_12 ro limits 69 n l p c x f y h own parts link last e) closed a b

      pub R5-at : {P Q : Tree} {i j : ℕ} → Is ro n 75 l c 0 → Is ro l 1 p 0 0 → Is ro c 1 x 0 f → Is ro f 1 y 0 0 →
          bare_tree ro p ≡ P → IsFormula P → NoIndex P →
          Derives ro (Γ ▹ ¬ᵗ Q) P (d + 1) x i → Derives ro (Γ ▹ ¬ᵗ Q) (¬ᵗ P) (d + 1) y j → Derives ro Γ Q d n (suc (i + j))
      R5-at own parts link last e formula closed a b =
          Derives.R5 (node_12 ro limits 75 n l p c x f y h own parts link last e) formula closed a b

      pub R6-at : {P Q : Tree} {i j : ℕ} → Is ro n 76 l c 0 → Is ro l 1 p 0 0 → Is ro c 1 x 0 f → Is ro f 1 y 0 0 →
          bare_tree ro p ≡ P → IsFormula P → NoIndex P →
          Derives ro (Γ ▹ Q) P (d + 1) x i → Derives ro (Γ ▹ Q) (¬ᵗ P) (d + 1) y j → Derives ro Γ (¬ᵗ Q) d n (suc (i + j))
      R6-at own parts link last e formula closed a b =
          Derives.R6 (node_12 ro limits 76 n l p c x f y h own parts link last e) formula closed a b

    -- two parts and one premise
    module _ (m q c x : ℕ) (h : (l < n) × (p < l) × (m < l) × (q < m) × (c < n) × (x < c)) where
      pub R7-at : (B : Tree) {i : ℕ} (e : ℕ) → Is ro n 77 l c 0 → Is ro l 1 p 0 m → Is ro m 1 q 0 0 → Is ro c 1 x 0 0 →
          bare_tree ro p ≡ constantᵇ e → bare_tree ro q ≡ B ⟨ constantᵇ e ⟩ →
          IsFormula (B ⟨ constantᵇ e ⟩) → NoIndex (B ⟨ constantᵇ e ⟩) → Fresh e (∀ᵇ B ∷ Γ) →
          Derives ro Γ (B ⟨ constantᵇ e ⟩) (d + 1) x i → Derives ro Γ (∀ᵇ B) d n (suc i)
      R7-at B e own parts more link g t formula closed fresh a =
          Derives.R7 (node_21 ro limits 77 n l p m q c x h own parts more link g t) formula closed fresh a

      pub R8-at : (B : Tree) {E : Tree} {i : ℕ} → Is ro n 78 l c 0 → Is ro l 1 p 0 m → Is ro m 1 q 0 0 → Is ro c 1 x 0 0 →
          bare_tree ro p ≡ ∀ᵇ B → bare_tree ro q ≡ E → IsTerm E → NoIndex (∀ᵇ B) → NoIndex E →
          Derives ro Γ (∀ᵇ B) (d + 1) x i → Derives ro Γ (B ⟨ E ⟩) d n (suc i)
      R8-at B own parts more link g t term closed closed-term a =
          Derives.R8 (node_21 ro limits 78 n l p m q c x h own parts more link g t) term closed closed-term a

    -- three parts and two premises
    pub R9-at : (B E F : Tree) {i j : ℕ} (m q o s c x f y : ℕ) →
        (l < n) × (p < l) × (m < l) × (q < m) × (o < m) × (s < o) × (c < n) × (x < c) × (f < c) × (y < f) →
        Is ro n 79 l c 0 → Is ro l 1 p 0 m → Is ro m 1 q 0 o → Is ro o 1 s 0 0 → Is ro c 1 x 0 f → Is ro f 1 y 0 0 →
        bare_tree ro p ≡ B → bare_tree ro q ≡ E =ᵗ F → bare_tree ro s ≡ B ⟨ E ⟩ →
        IsFormula B → IsFormula (B ⟨ E ⟩) → OpenInZero B → NoIndex (E =ᵗ F) → NoIndex (B ⟨ E ⟩) →
        Derives ro Γ (E =ᵗ F) (d + 1) x i → Derives ro Γ (B ⟨ E ⟩) (d + 1) y j → Derives ro Γ (B ⟨ F ⟩) d n (suc (i + j))
    R9-at B E F m q o s c x f y h own parts more rest link last e g t formula formula_at opened closed Closed-at a b =
        Derives.R9 (node_32 ro limits 79 n l p m q o s c x f y h own parts more rest link last e g t) formula formula_at opened closed Closed-at a b
