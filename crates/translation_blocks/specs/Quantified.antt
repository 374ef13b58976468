-- The blocks of rules 42 to 46 and of the start: over any reader with the block's records, its concluding node derives the goal from Γ where the rule's own
-- conditions hold of Γ and its premises' concluding nodes derive ⊥ from what the rule adds.
use Prim.Native.Nat.{ℕ, ◌+◌, ◌<◌}
use Rattle.std.specs.Prelude.{◌≡◌, List, [], ◌∷◌, get_or}
use Rattle.std.proofs.Math.Path.{refl}
use Rattle.std.proofs.Common.{subst, arith}
use Rattle.std.proofs.lemmas.Bool.{eqb-false}
use Rattle.reader.specs.Words.{Reader}
use Rattle.reader.specs.Tests.{if_lt}
use Rattle.reader.specs.Kinds.{class}
use Rattle.reader.specs.Trees.{Tree, kind_of, ⊥ᵗ, ◌∧ᵗ◌, ¬ᵗ◌, ◌=ᵗ◌}
use Rattle.reader.specs.Variables.{binders}
use Rattle.reader.specs.Members.{◌▹◌}
use Rattle.reader.specs.Notions.{◌∈◌, IsTerm, IsFormula, ◌⟨◌⟩, IndicesBelow, NoIndex, OpenInZero, Fresh}
use Rattle.derivation_rules.specs.Erase.{bare_tree, constantᵇ, ∀ᵇ}
use Rattle.derivation_meaning.specs.Derives.{Derives}
use Rattle.derivation_meaning.proofs.Intro.{in_longer, in_last}
use Rattle.translation_rules.specs.Templates.{lines_of_start, lines42, lines43, lines44, lines45, lines46}
use Rattle.translation_rules.specs.Output.{Letters, value, Block}
use Rattle.translation_blocks.specs.Build.{Is, line_is, Room, Limits, room_0, room_1, room_2, level_3, equal_tree}
use Rattle.translation_blocks.specs.Build.{BR3-at, BR4-at, BR6-at, R1-at, R5-at, R7-at, R8-at, R9-at}

-- the record of part j, and the concluding node of premise j
abbrev part_of : Letters → ℕ → ℕ
part_of l j = get_or l.parts_of j 0

abbrev conclusion_of : Letters → ℕ → ℕ
conclusion_of l j = l.ends (get_or l.premises_of j 0)

-- ⊥ has no unbound index, and an equation has none where its sides have none
false_closed : NoIndex ⊥ᵗ
false_closed = IndicesBelow.inside (λ same. absurd (eqb-false 14 9 refl same)) IndicesBelow.none IndicesBelow.none IndicesBelow.none

equal_closed : {t u : Tree} → NoIndex t → NoIndex u → NoIndex (t =ᵗ u)
unfolding binders
equal_closed p q = IndicesBelow.inside (λ same. absurd (eqb-false 20 9 refl same)) p q IndicesBelow.none

-- the count of a derivation's nodes, as a sum written in another way
recount : {ro : Reader} {Γ : List Tree} {P : Tree} {d n j k : ℕ} → j ≡ k → Derives ro Γ P d n j → Derives ro Γ P d n k
recount {ro = ro} {Γ = Γ} {P = P} {d = d} {n = n} e h = subst (λ (k : ℕ). Derives ro Γ P d n k) e h

-- Two parts that the blocks share. n is the node, l the link of its part p, and c, f are the links of its premises x, y.
module _ (ro : Reader) (Γ : List Tree) (d n l p c x f y : ℕ) (h : (l < n) × (p < l) × (c < n) × (x < c) × (f < c) × (y < f)) where
  -- R5 ⊥ [premise; BR6]: Q, where a premise derives ⊥ from ¬Q
  contrary : {Q : Tree} {i : ℕ} → Limits Γ d → Limits (Γ ▹ ¬ᵗ Q) (d + 1) →
      Is ro n 75 l c 0 → Is ro l 1 p 0 0 → Is ro c 1 x 0 f → Is ro f 1 y 0 0 → Is ro y 68 0 0 0 → bare_tree ro p ≡ ⊥ᵗ → 0 < y →
      Derives ro (Γ ▹ ¬ᵗ Q) ⊥ᵗ (d + 1) x i → Derives ro Γ Q d n (i + 2)
  unfolding class kind_of if_lt
  contrary limits more own parts link last end bottom positive a =
      recount (omega arith) (R5-at ro d limits n l p c x f y h own parts link last bottom refl false_closed a (BR6-at ro (d + 1) more y positive end))

  -- R5 P [BR3; BR3]: whatever Q, where P and ¬P are members
  clash : {P Q : Tree} → Limits Γ d → Limits (Γ ▹ ¬ᵗ Q) (d + 1) →
      Is ro n 75 l c 0 → Is ro l 1 p 0 0 → Is ro c 1 x 0 f → Is ro f 1 y 0 0 → Is ro x 66 0 0 0 → Is ro y 66 0 0 0 → bare_tree ro p ≡ P →
      (0 < x) × (0 < y) → IsFormula P → NoIndex P → P ∈ Γ → (¬ᵗ P) ∈ Γ → Derives ro Γ Q d n 3
  clash {Q = Q} limits more own parts link last one two e positive formula closed m k =
      R5-at ro d limits n l p c x f y h own parts link last e formula closed
      (BR3-at ro (d + 1) more x positive.0 one (in_longer (¬ᵗ Q ∷ []) m)) (BR3-at ro (d + 1) more y positive.1 two (in_longer (¬ᵗ Q ∷ []) k))

module _ (rd ro : Reader) (l : Letters) (Γ : List Tree) (d : ℕ) where
  -- R5 ⊥ [root; BR6]
  pub block_start : (G : Tree) {i : ℕ} → Block rd ro l lines_of_start → Room Γ d → (l.node < l.base) × (conclusion_of l 0 < l.base) →
      bare_tree ro l.node ≡ ⊥ᵗ → Derives ro (Γ ▹ ¬ᵗ G) ⊥ᵗ (d + 1) (conclusion_of l 0) i → Derives ro Γ G d (l.base + 4) (i + 2)
  unfolding value
  block_start G block room below bottom a =
      let at = line_is rd ro l lines_of_start block in
      let b : ℕ = l.base in
      contrary ro Γ d (b + 4) (b + 0) l.node (b + 3) (conclusion_of l 0) (b + 2) (b + 1) (omega arith)
      (room_0 room (omega arith)) (room_1 room (omega arith) (¬ᵗ G)) (at 4 refl) (at 0 refl) (at 3 refl) (at 2 refl) (at 1 refl) bottom (omega arith) a

  -- BR4 P∧Q [R1 [R5 ⊥ [premise 0; BR6]; R5 ⊥ [premise 1; BR6]]; R5 P∧Q [BR3; BR3]]
  pub block42 : (P Q : Tree) {i j : ℕ} → Block rd ro l lines42 → Room Γ d →
      (l.node < l.base) × (rd (part_of l 0) 1 < l.base) × (conclusion_of l 0 < l.base) × (conclusion_of l 1 < l.base) →
      bare_tree ro l.node ≡ ⊥ᵗ → bare_tree ro (rd (part_of l 0) 1) ≡ P ∧ᵗ Q → NoIndex (P ∧ᵗ Q) → (¬ᵗ (P ∧ᵗ Q)) ∈ Γ →
      Derives ro (Γ ▹ ¬ᵗ P) ⊥ᵗ (d + 3) (conclusion_of l 0) i → Derives ro (Γ ▹ ¬ᵗ Q) ⊥ᵗ (d + 3) (conclusion_of l 1) j →
      Derives ro Γ ⊥ᵗ d (l.base + 20) (i + j + 9)
  unfolding value class kind_of if_lt
  block42 P Q block room below bottom e closed m p q =
      let at = line_is rd ro l lines42 block in
      let b : ℕ = l.base in
      let limits_2 = room_0 {e = d + 1 + 1} room (omega arith) in
      let limits_3 = room_1 {e = d + 1 + 1 + 1} room (omega arith) in
      let first = contrary ro Γ (d + 1 + 1) (b + 4) (b + 0) l.node (b + 3) (conclusion_of l 0) (b + 2) (b + 1) (omega arith)
      limits_2 (limits_3 (¬ᵗ P)) (at 4 refl) (at 0 refl) (at 3 refl) (at 2 refl) (at 1 refl) bottom (omega arith) (level_3 d p) in
      let second = contrary ro Γ (d + 1 + 1) (b + 8) (b + 0) l.node (b + 7) (conclusion_of l 1) (b + 6) (b + 5) (omega arith)
      limits_2 (limits_3 (¬ᵗ Q)) (at 8 refl) (at 0 refl) (at 7 refl) (at 6 refl) (at 5 refl) bottom (omega arith) (level_3 d q) in
      let both = R1-at ro (d + 1) (room_0 room (omega arith)) (b + 11) (b + 10) (b + 4) (b + 9) (b + 8) (omega arith)
      (at 11 refl) (at 10 refl) (at 9 refl) first second in
      let closing = clash ro (Γ ▹ P ∧ᵗ Q) (d + 1) (b + 17) (b + 12) (rd (part_of l 0) 1) (b + 16) (b + 13) (b + 15) (b + 14) (omega arith)
      (room_1 room (omega arith) (P ∧ᵗ Q)) (room_2 room (omega arith) (P ∧ᵗ Q) (¬ᵗ ⊥ᵗ))
      (at 17 refl) (at 12 refl) (at 16 refl) (at 15 refl) (at 13 refl) (at 14 refl) e (omega arith) refl closed
      (in_last Γ (P ∧ᵗ Q)) (in_longer (P ∧ᵗ Q ∷ []) m) in
      recount (omega arith)
      (BR4-at ro d (room_0 room (omega arith)) (b + 20) (b + 12) (rd (part_of l 0) 1) (b + 19) (b + 11) (b + 18) (b + 17) (omega arith)
      (at 20 refl) (at 12 refl) (at 19 refl) (at 18 refl) e refl closed both closing)

  -- BR4 ∀B [R7 c, B(c) [R5 ⊥ [premise 0; BR6]]; R5 ∀B [BR3; BR3]]
  pub block43 : (B : Tree) (c : ℕ) {i : ℕ} → Block rd ro l lines43 → Room Γ d →
      (l.node < l.base) × (rd (part_of l 0) 1 < l.base) × (part_of l 1 < l.base) × (part_of l 2 < l.base) × (conclusion_of l 0 < l.base) →
      bare_tree ro l.node ≡ ⊥ᵗ → bare_tree ro (rd (part_of l 0) 1) ≡ ∀ᵇ B → bare_tree ro (part_of l 1) ≡ constantᵇ c →
      bare_tree ro (part_of l 2) ≡ B ⟨ constantᵇ c ⟩ →
      NoIndex (∀ᵇ B) → IsFormula (B ⟨ constantᵇ c ⟩) → NoIndex (B ⟨ constantᵇ c ⟩) → Fresh c (∀ᵇ B ∷ Γ) → (¬ᵗ (∀ᵇ B)) ∈ Γ →
      Derives ro (Γ ▹ ¬ᵗ (B ⟨ constantᵇ c ⟩)) ⊥ᵗ (d + 3) (conclusion_of l 0) i → Derives ro Γ ⊥ᵗ d (l.base + 17) (i + 7)
  unfolding value class kind_of if_lt
  block43 B c block room below bottom e constant instance closed formula Closed-at fresh m a =
      let at = line_is rd ro l lines43 block in
      let b : ℕ = l.base in
      let inner = contrary ro Γ (d + 1 + 1) (b + 4) (b + 0) l.node (b + 3) (conclusion_of l 0) (b + 2) (b + 1) (omega arith)
      (room_0 room (omega arith)) (room_1 room (omega arith) (¬ᵗ (B ⟨ constantᵇ c ⟩)))
      (at 4 refl) (at 0 refl) (at 3 refl) (at 2 refl) (at 1 refl) bottom (omega arith) (level_3 d a) in
      let general = R7-at ro (d + 1) (room_0 room (omega arith)) (b + 8) (b + 6) (part_of l 1) (b + 5) (part_of l 2) (b + 7) (b + 4) (omega arith) B c
      (at 8 refl) (at 6 refl) (at 5 refl) (at 7 refl) constant instance formula Closed-at fresh inner in
      let closing = clash ro (Γ ▹ ∀ᵇ B) (d + 1) (b + 14) (b + 9) (rd (part_of l 0) 1) (b + 13) (b + 10) (b + 12) (b + 11) (omega arith)
      (room_1 room (omega arith) (∀ᵇ B)) (room_2 room (omega arith) (∀ᵇ B) (¬ᵗ ⊥ᵗ))
      (at 14 refl) (at 9 refl) (at 13 refl) (at 12 refl) (at 10 refl) (at 11 refl) e (omega arith) refl closed
      (in_last Γ (∀ᵇ B)) (in_longer (∀ᵇ B ∷ []) m) in
      recount (omega arith)
      (BR4-at ro d (room_0 room (omega arith)) (b + 17) (b + 9) (rd (part_of l 0) 1) (b + 16) (b + 8) (b + 15) (b + 14) (omega arith)
      (at 17 refl) (at 9 refl) (at 16 refl) (at 15 refl) e refl closed general closing)

  -- BR4 B(t) [R8 ∀B, t [BR3]; premise 0]
  pub block44 : (B t : Tree) {i : ℕ} → Block rd ro l lines44 → Room Γ d →
      (part_of l 0 < l.base) × (part_of l 1 < l.base) × (part_of l 2 < l.base) × (conclusion_of l 0 < l.base) →
      bare_tree ro (part_of l 0) ≡ ∀ᵇ B → bare_tree ro (part_of l 1) ≡ t → bare_tree ro (part_of l 2) ≡ B ⟨ t ⟩ →
      IsTerm t → NoIndex (∀ᵇ B) → NoIndex t → IsFormula (B ⟨ t ⟩) → NoIndex (B ⟨ t ⟩) → ∀ᵇ B ∈ Γ →
      Derives ro (Γ ▹ B ⟨ t ⟩) ⊥ᵗ (d + 1) (conclusion_of l 0) i → Derives ro Γ ⊥ᵗ d (l.base + 8) (i + 3)
  unfolding value
  block44 B t block room below e g instance term closed closed-term formula Closed-at m a =
      let at = line_is rd ro l lines44 block in
      let b : ℕ = l.base in
      let member = BR3-at ro (d + 1 + 1) (room_0 room (omega arith)) (b + 2) (omega arith) (at 2 refl) m in
      let special = R8-at ro (d + 1) (room_0 room (omega arith)) (b + 4) (b + 1) (part_of l 0) (b + 0) (part_of l 1) (b + 3) (b + 2) (omega arith) B
      (at 4 refl) (at 1 refl) (at 0 refl) (at 3 refl) e g term closed closed-term member in
      recount (omega arith)
      (BR4-at ro d (room_0 room (omega arith)) (b + 8) (b + 5) (part_of l 2) (b + 7) (b + 4) (b + 6) (conclusion_of l 0) (omega arith)
      (at 8 refl) (at 5 refl) (at 7 refl) (at 6 refl) instance formula Closed-at special a)

  -- BR4 instance [BR3; premise 0]: an instance differs from its formula in types only, so with types removed it is a member already
  pub block45 : (P : Tree) {i : ℕ} → Block rd ro l lines45 → Room Γ d → (part_of l 1 < l.base) × (conclusion_of l 0 < l.base) →
      bare_tree ro (part_of l 1) ≡ P → IsFormula P → NoIndex P → P ∈ Γ →
      Derives ro (Γ ▹ P) ⊥ᵗ (d + 1) (conclusion_of l 0) i → Derives ro Γ ⊥ᵗ d (l.base + 4) (i + 2)
  unfolding value
  block45 P block room below e formula closed m a =
      let at = line_is rd ro l lines45 block in
      let b : ℕ = l.base in
      recount (omega arith)
      (BR4-at ro d (room_0 room (omega arith)) (b + 4) (b + 0) (part_of l 1) (b + 3) (b + 1) (b + 2) (conclusion_of l 0) (omega arith)
      (at 4 refl) (at 0 refl) (at 3 refl) (at 2 refl) e formula closed
      (BR3-at ro (d + 1) (room_0 room (omega arith)) (b + 1) (omega arith) (at 1 refl) m) a)

  -- BR4 B(u) [R9 B, (t=u), B(t) [R5 ⊥ [premise 0; BR6]; BR3]; premise 1]
  pub block46 : (B t u : Tree) {i j : ℕ} → Block rd ro l lines46 → Room Γ d →
      (l.node < l.base) × (part_of l 0 < l.base) × (part_of l 1 < l.base) × (part_of l 2 < l.base) × (part_of l 3 < l.base) × (part_of l 4 < l.base) ×
      (conclusion_of l 0 < l.base) × (conclusion_of l 1 < l.base) →
      bare_tree ro l.node ≡ ⊥ᵗ → bare_tree ro (part_of l 0) ≡ B → bare_tree ro (part_of l 1) ≡ t → bare_tree ro (part_of l 2) ≡ u →
      bare_tree ro (part_of l 3) ≡ B ⟨ t ⟩ → bare_tree ro (part_of l 4) ≡ B ⟨ u ⟩ →
      IsFormula B → OpenInZero B → NoIndex t → NoIndex u → IsFormula (B ⟨ t ⟩) → NoIndex (B ⟨ t ⟩) → IsFormula (B ⟨ u ⟩) → NoIndex (B ⟨ u ⟩) →
      B ⟨ t ⟩ ∈ Γ → Derives ro (Γ ▹ ¬ᵗ (t =ᵗ u)) ⊥ᵗ (d + 3) (conclusion_of l 0) i → Derives ro (Γ ▹ B ⟨ u ⟩) ⊥ᵗ (d + 1) (conclusion_of l 1) j →
      Derives ro Γ ⊥ᵗ d (l.base + 16) (i + j + 5)
  unfolding value
  block46 B t u block room below bottom e g h old new formula opened closed-t closed-u formula-t closed-bt formula-u closed-bu m p q =
      let at = line_is rd ro l lines46 block in
      let b : ℕ = l.base in
      let equation = equal_tree ro (b + 0) (part_of l 1) (part_of l 2) (omega arith) (at 0 refl) g h in
      let equal = contrary ro Γ (d + 1 + 1) (b + 5) (b + 1) l.node (b + 4) (conclusion_of l 0) (b + 3) (b + 2) (omega arith)
      (room_0 room (omega arith)) (room_1 room (omega arith) (¬ᵗ (t =ᵗ u)))
      (at 5 refl) (at 1 refl) (at 4 refl) (at 3 refl) (at 2 refl) bottom (omega arith) (level_3 d p) in
      let member = BR3-at ro (d + 1 + 1) (room_0 room (omega arith)) (b + 6) (omega arith) (at 6 refl) m in
      let replaced = R9-at ro (d + 1) (room_0 room (omega arith)) (b + 12) (b + 9) (part_of l 0) B t u
      (b + 8) (b + 0) (b + 7) (part_of l 3) (b + 11) (b + 5) (b + 10) (b + 6) (omega arith)
      (at 12 refl) (at 9 refl) (at 8 refl) (at 7 refl) (at 11 refl) (at 10 refl) e equation old
      formula formula-t opened (equal_closed closed-t closed-u) closed-bt equal member in
      recount (omega arith)
      (BR4-at ro d (room_0 room (omega arith)) (b + 16) (b + 13) (part_of l 4) (b + 15) (b + 12) (b + 14) (conclusion_of l 1) (omega arith)
      (at 16 refl) (at 13 refl) (at 15 refl) (at 14 refl) new formula-u closed-bu replaced q)
