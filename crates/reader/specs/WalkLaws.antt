-- What acceptance of a walk means, for any calculus, proved once: an accepting walk is a tree of nodes that pass their tests, and such a tree is accepted.
use Prim.Native.Nat.{ℕ, zero, suc, ◌+◌, ◌<◌}
use Rattle.std.specs.Prelude.{◌≡◌, Bool}
use Rattle.std.proofs.Math.Path.{refl, ap}
use Rattle.std.proofs.Common.{◌∙◌}
use mathlib.Core.List.{List, [], ◌∷◌}
use Rattle.std.proofs.Math.Bool.{true, false}
use Rattle.std.proofs.Math.Dec.{eqb}
use native.Mathlib.Omega.{arith}
use borrow.Author.Tests.{eqb-true, eqb-false, ne_eqb}
use Rattle.reader.specs.declared.Answer.{Answer}
use Rattle.reader.specs.Words.{Reader}
use Rattle.reader.specs.DownLaws.{Local, down_zero, down_step}
use Rattle.reader.specs.Trees.{lower}
use Rattle.reader.specs.Chains.{items, premises}
use Rattle.reader.specs.Answers.{answer, accepted}
use Rattle.reader.specs.Walk.{and_then, Walks, node_step, link_step, walk_step, no_walk, walks, walk_node, walk_links}
use Rattle.reader.specs.TreeLaws.{below, lower_below, items_zero, items_step, items_end, items_more}

refusal_of : {a b : Answer} → a ≡ b → a.refusal ≡ 0 → b.refusal ≡ 0
refusal_of e h = rw e at h

-- Of xs, the nodes of premises b on, each has Q of its state; their nodes are k in all.
unfoldable pub Each : {S : Type 0} → (S → ℕ → ℕ → Type 0) → (S → ℕ → ℕ → S) → S → ℕ → ℕ → List ℕ → ℕ → Type 0
Each Q next st n b [] k = k ≡ 0
Each Q next st n b (x ∷ xs) k = (i : ℕ) × (j : ℕ) × Q (next st n b) x i × Each Q next st n (b + 1) xs j × (k ≡ i + j)

module _ {S : Type 0} (Q : S → ℕ → ℕ → Type 0) (next : S → ℕ → ℕ → S) (st : S) (n : ℕ) where
  pub each_0 : (k : ℕ) → Each Q next st n 0 [] k → k ≡ 0
  unfolding Each
  each_0 k h = h

  pub each_1 : (x k : ℕ) → Each Q next st n 0 (x ∷ []) k → Q (next st n 0) x k
  unfolding Each
  each_1 x k h = let z : k ≡ h.0 = omega (arith, h.3) in rw z h.2

  pub each_2 : (x y k : ℕ) → Each Q next st n 0 (x ∷ y ∷ []) k → (i : ℕ) × (j : ℕ) × Q (next st n 0) x i × Q (next st n 1) y j × (k ≡ i + j)
  unfolding Each
  each_2 x y k h = let g = h.3 in (h.0, g.0, h.2, g.2, omega (arith, g.3))

  pub one_each : (x k : ℕ) → Q (next st n 0) x k → Each Q next st n 0 (x ∷ []) k
  unfolding Each
  one_each x k q = (k, 0, q, refl, omega arith)

  pub two_each : (x y i j : ℕ) → Q (next st n 0) x i → Q (next st n 1) y j → Each Q next st n 0 (x ∷ y ∷ []) (i + j)
  unfolding Each
  two_each x y i j p q = (i, j, p, (j, 0, q, refl, omega arith), refl)

module _ {S : Type 0} (rd : Reader) (fault : S → ℕ → ℕ) (next : S → ℕ → ℕ → S) where
  -- the walk at a node, and at a link
  abbrev visit : ℕ → S → ℕ → Answer
  visit = walk_node rd fault next

  abbrev follow : ℕ → ℕ → ℕ → S → ℕ → Answer
  follow = walk_links rd fault next

  walk_local : Local (walk_step rd fault next)
  unfolding walk_step
  walk_local f g i p h = rw (h _ (lower_below rd i 1 p), h _ (lower_below rd i 2 p), h _ (lower_below rd i 3 p))

  walk_step_lem : (i : ℕ) → 0 < i → walks rd fault next i ≡ walk_step rd fault next (walks rd fault next) i
  unfolding walks
  walk_step_lem i p = down_step _ (walk_step rd fault next) walk_local i p

  walk_zero : walks rd fault next 0 ≡ no_walk rd fault next
  unfolding walks
  walk_zero = down_zero _ (walk_step rd fault next)

  -- record 0 is no node
  pub node_zero : (st : S) (count : ℕ) → visit 0 st count ≡ answer 13 2 0 count
  unfolding walk_node
  node_zero st count = ap (λ (w : Walks S). w.node st count) walk_zero

  -- The ways through a node and a link.
  module _ (n : ℕ) (st : S) (count : ℕ) where
    node_is : 0 < n → visit n st count ≡ node_step rd fault next (walks rd fault next (lower rd n 2)) n st count
    unfolding walk_node walk_step
    node_is p = ap (λ (w : Walks S). w.node st count) (walk_step_lem n p)

    pub node_go : 0 < n → fault st n ≡ 0 → visit n st count ≡ follow (lower rd n 2) n 0 st (count + 1)
    unfolding node_step walk_links
    node_go p h = rw (node_is p) (simp (node_step, h))

    pub node_stop : 0 < n → (fault st n ≡ 0 → ⊥) → visit n st count ≡ answer (fault st n) 2 n (count + 1)
    unfolding node_step
    node_stop p h = rw (node_is p) (simp (node_step, ne_eqb (fault st n) 0 h))

    node_in : (visit n st count).refusal ≡ 0 → (0 < n) × (fault st n ≡ 0)
    unfolding walk_node
    node_in h = go n refl (eqb (fault st n) 0) refl
      where
        go : (m : ℕ) → n ≡ m → (b : Bool) → eqb (fault st n) 0 ≡ b → (0 < n) × (fault st n ≡ 0)
        go zero z b e = absurd (omega (arith, refusal_of (ap (λ (w : Walks S). w.node st count) walk_zero) (rw z at h)))
        go (suc m) z true e = (omega arith, eqb-true _ _ e)
        go (suc m) z false e = let no = eqb-false _ _ e in absurd (no (refusal_of (node_stop (omega arith) no) h))

  module _ (n b : ℕ) (st : S) (count : ℕ) where
    pub link_zero : follow 0 n b st count ≡ accepted count
    unfolding walk_links
    link_zero = ap (λ (w : Walks S). w.link n b st count) walk_zero

    module _ (c : ℕ) (pos : 0 < c) where
      abbrev first : Answer
      first = visit (lower rd c 1) (next st n b) count

      link_is : follow c n b st count ≡ and_then first (follow (lower rd c 3) n (b + 1) st)
      unfolding walk_links walk_step link_step walk_node
      link_is = ap (λ (w : Walks S). w.link n b st count) (walk_step_lem c pos)

      pub link_go : first.refusal ≡ 0 → follow c n b st count ≡ follow (lower rd c 3) n (b + 1) st first.nodes
      unfolding and_then
      link_go h = rw link_is (simp (and_then, h))

      pub link_stop : (first.refusal ≡ 0 → ⊥) → follow c n b st count ≡ first
      unfolding and_then
      link_stop h = rw link_is (simp (and_then, ne_eqb first.refusal 0 h))

      link_in : (follow c n b st count).refusal ≡ 0 → first.refusal ≡ 0
      link_in h = go (eqb first.refusal 0) refl
        where
          go : (v : Bool) → eqb first.refusal 0 ≡ v → first.refusal ≡ 0
          go true e = eqb-true _ _ e
          go false e = let no = eqb-false _ _ e in absurd (no (refusal_of (link_stop no) h))

  -- Q holds of a node that passes its tests, where it holds of the premises
  abbrev pub Inherited : (S → ℕ → ℕ → Type 0) → Type 0
  Inherited Q = (st : S) (n k : ℕ) → 0 < n → fault st n ≡ 0 → Each Q next st n 0 (premises rd n) k → Q st n (suc k)

  -- the walk from node n accepts, and counts k nodes
  abbrev pub Passes : S → ℕ → ℕ → Type 0
  Passes st n k = (count : ℕ) → walk_node rd fault next n st count ≡ accepted (count + k)

  -- First way: what an accepting walk shows.
  module _ (Q : S → ℕ → ℕ → Type 0) (closed : Inherited Q) where
    record Sound (i : ℕ) : Type 0 where
      at_node : (st : S) (count : ℕ) → (visit i st count).refusal ≡ 0 → (k : ℕ) × Q st i k × (visit i st count ≡ accepted (count + k))
      at_link : (n b : ℕ) (st : S) (count : ℕ) → (follow i n b st count).refusal ≡ 0 →
          (k : ℕ) × Each Q next st n b (items rd i) k × (follow i n b st count ≡ accepted (count + k))

    node_sound : (i : ℕ) → ((j : ℕ) → j < i → Sound j) → (st : S) (count : ℕ) → (visit i st count).refusal ≡ 0 →
        (k : ℕ) × Q st i k × (visit i st count ≡ accepted (count + k))
    unfolding premises
    node_sound i ih st count h =
        let p = node_in i st count h in
        let g = node_go i st count p.0 p.1 in
        let r = (ih (lower rd i 2) (lower_below rd i 2 p.0)).at_link i 0 st (count + 1) (refusal_of g h) in
        let e : count + 1 + r.0 ≡ count + suc r.0 = omega arith in
        (suc r.0, closed st i r.0 p.0 p.1 r.1, g ∙ r.2 ∙ ap (λ (x : ℕ). accepted x) e)

    link_sound : (i : ℕ) → ((j : ℕ) → j < i → Sound j) → (n b : ℕ) (st : S) (count : ℕ) → (follow i n b st count).refusal ≡ 0 →
        (k : ℕ) × Each Q next st n b (items rd i) k × (follow i n b st count ≡ accepted (count + k))
    unfolding Each
    link_sound zero ih n b st count h =
        let e : count ≡ count + 0 = omega arith in
        (0, rw (items_zero rd) refl, link_zero n b st count ∙ ap (λ (x : ℕ). accepted x) e)
    link_sound (suc i) ih n b st count h =
        let c : ℕ = suc i in
        let pos : 0 < c = omega arith in
        let p = link_in n b st count c pos h in
        let f = (ih (lower rd c 1) (lower_below rd c 1 pos)).at_node (next st n b) count p in
        let g = link_go n b st count c pos p in
        let r = (ih (lower rd c 3) (lower_below rd c 3 pos)).at_link n (b + 1) st _ (refusal_of g h) in
        let e : count + f.0 + r.0 ≡ count + (f.0 + r.0) = omega arith in (
          f.0 + r.0,
          rw (items_step rd c pos) (f.0, r.0, f.1, r.1, refl),
          g ∙ r.2 ∙ ap (λ (a : Answer). accepted (a.nodes + r.0)) f.2 ∙ ap (λ (x : ℕ). accepted x) e,
        )

    pub sound : (n : ℕ) (st : S) (count : ℕ) → (walk_node rd fault next n st count).refusal ≡ 0 →
        (k : ℕ) × Q st n k × (walk_node rd fault next n st count ≡ accepted (count + k))
    sound n = (below Sound (λ i ih. record { at_node = node_sound i ih; at_link = link_sound i ih }) n).at_node

  -- Second way: acceptance is itself closed, so a proof is accepted by recursion on it.
  link_passes : (c n b : ℕ) (st : S) (xs : List ℕ) (k count : ℕ) → items rd c ≡ xs → Each Passes next st n b xs k → follow c n b st count ≡ accepted (count + k)
  unfolding Each
  link_passes c n b st [] k count e h =
      let z : count ≡ count + k = omega (arith, h) in
      rw (items_end rd c e) (link_zero n b st count ∙ ap (λ (x : ℕ). accepted x) z)
  link_passes c n b st (x ∷ xs) k count e h =
      let p = items_more rd c x xs e in
      let w : visit (lower rd c 1) (next st n b) count ≡ accepted (count + h.0) = rw p.1 (h.2 count) in
      let z : count + h.0 + h.1 ≡ count + k = omega (arith, h.4) in
      link_go n b st count c p.0 (ap (λ (a : Answer). a.refusal) w)
      ∙ ap (λ (a : Answer). follow (lower rd c 3) n (b + 1) st a.nodes) w
      ∙ link_passes (lower rd c 3) n (b + 1) st xs h.1 (count + h.0) p.2 h.3
      ∙ ap (λ (x : ℕ). accepted x) z

  pub passes : Inherited Passes
  unfolding premises
  passes st n k p h e count =
      let z : count + 1 + k ≡ count + suc k = omega arith in
      node_go n st count p h ∙ link_passes (lower rd n 2) n 0 st (premises rd n) k (count + 1) refl e ∙ ap (λ (x : ℕ). accepted x) z
