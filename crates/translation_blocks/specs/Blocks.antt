-- The blocks of rules 32 to 41: over any reader with the block's records, its concluding node derives ⊥ from Γ where the rule's own conditions hold of Γ and
-- its premises' concluding nodes derive ⊥ from what the rule adds. A law asks of the file only what its block names, all of it below the block.
use Prim.Native.Nat.{ℕ, suc, ◌+◌, ◌<◌}
use Rattle.std.specs.Prelude.{◌≡◌, List, [], ◌∷◌, get_or}
use Rattle.std.proofs.Math.Path.{refl, sym}
use Rattle.std.proofs.Common.{subst, ◌∙◌, arith}
use Rattle.reader.specs.Words.{Reader}
use Rattle.reader.specs.Tests.{if_lt}
use Rattle.reader.specs.Kinds.{class}
use Rattle.reader.specs.Trees.{Tree, kind_of, ⊥ᵗ, ◌∧ᵗ◌, ◌⇒ᵗ◌, ¬ᵗ◌, ◌=ᵗ◌}
use Rattle.reader.specs.Members.{◌▹◌}
use Rattle.reader.specs.Notions.{◌∈◌, IsFormula, ◌⟨◌⟩, NoIndex}
use Rattle.derivation_rules.specs.Erase.{bare_tree}
use Rattle.derivation_meaning.specs.Derives.{Derives}
use Rattle.derivation_meaning.proofs.Intro.{in_longer, in_last}
use Rattle.translation_rules.specs.Templates.{lines32, lines33, lines34, lines35, lines36, lines37, lines38, lines39, lines40, lines41}
use Rattle.translation_rules.specs.Output.{Letters, value, Block}
use Rattle.translation_blocks.specs.Build.{line_is, Room, room_0, room_1, room_2, level_2, level_3, not_tree, equal_tree, index_tree}
use Rattle.translation_blocks.specs.Build.{BR3-at, BR4-at, BR6-at, MP-at, R2-at, R2'-at, R3-at, R5-at, R6-at, R9-at, R10-at}
use Rattle.translation_blocks.specs.Indices.{index0, under_and, under_implies, under_equal, over_false, over_not, over_equal, equal_open, replaced_equal}

-- the record of part j, and the concluding node of premise j
abbrev pub part_of : Letters → ℕ → ℕ
part_of l j = get_or l.parts_of j 0

abbrev pub conclusion_of : Letters → ℕ → ℕ
conclusion_of l j = l.ends (get_or l.premises_of j 0)

module _ (rd ro : Reader) (l : Letters) (Γ : List Tree) (d : ℕ) where
  -- BR3
  pub block32 : Block rd ro l lines32 → Room Γ d → 0 < l.base → ⊥ᵗ ∈ Γ → Derives ro Γ ⊥ᵗ d (l.base + 0) 1
  unfolding value
  block32 block room below m = BR3-at ro d (room_0 room (omega arith)) (l.base + 0) (omega arith) (line_is rd ro l lines32 block 0 refl) m

  -- R5 ¬⊥ [BR3; BR3]
  pub block33 : Block rd ro l lines33 → Room Γ d → l.node < l.base → bare_tree ro l.node ≡ ⊥ᵗ → (¬ᵗ (¬ᵗ ⊥ᵗ)) ∈ Γ →
      Derives ro Γ ⊥ᵗ d (l.base + 6) 3
  unfolding value class kind_of if_lt
  block33 block room below bottom m =
      let at = line_is rd ro l lines33 block in
      let b : ℕ = l.base in
      let limits = room_1 {e = d + 1} room (omega arith) (¬ᵗ ⊥ᵗ) in
      R5-at ro d (room_0 room (omega arith)) (b + 6) (b + 1) (b + 0) (b + 5) (b + 2) (b + 4) (b + 3) (omega arith)
      (at 6 refl) (at 1 refl) (at 5 refl) (at 4 refl) (not_tree ro (b + 0) l.node (omega arith) (at 0 refl) bottom) refl (over_not over_false)
      (BR3-at ro (d + 1) limits (b + 2) (omega arith) (at 2 refl) (in_last Γ (¬ᵗ ⊥ᵗ)))
      (BR3-at ro (d + 1) limits (b + 3) (omega arith) (at 3 refl) (in_longer (¬ᵗ ⊥ᵗ ∷ []) m))

  -- R5 P [BR3; BR3]
  pub block34 : (P : Tree) → Block rd ro l lines34 → Room Γ d → part_of l 0 < l.base → bare_tree ro (part_of l 0) ≡ P → IsFormula P → NoIndex P →
      P ∈ Γ → (¬ᵗ P) ∈ Γ → Derives ro Γ ⊥ᵗ d (l.base + 5) 3
  unfolding value
  block34 P block room below e formula closed m k =
      let at = line_is rd ro l lines34 block in
      let b : ℕ = l.base in
      let limits = room_1 {e = d + 1} room (omega arith) (¬ᵗ ⊥ᵗ) in
      R5-at ro d (room_0 room (omega arith)) (b + 5) (b + 0) (part_of l 0) (b + 4) (b + 1) (b + 3) (b + 2) (omega arith)
      (at 5 refl) (at 0 refl) (at 4 refl) (at 3 refl) e formula closed
      (BR3-at ro (d + 1) limits (b + 1) (omega arith) (at 1 refl) (in_longer (¬ᵗ ⊥ᵗ ∷ []) m))
      (BR3-at ro (d + 1) limits (b + 2) (omega arith) (at 2 refl) (in_longer (¬ᵗ ⊥ᵗ ∷ []) k))

  -- R5 t=t [R10; BR3]
  pub block35 : (t : Tree) → Block rd ro l lines35 → Room Γ d → rd (part_of l 0) 1 < l.base → bare_tree ro (rd (part_of l 0) 1) ≡ t =ᵗ t → NoIndex (t =ᵗ t) →
      (¬ᵗ (t =ᵗ t)) ∈ Γ → Derives ro Γ ⊥ᵗ d (l.base + 5) 3
  unfolding value class kind_of if_lt
  block35 t block room below e closed m =
      let at = line_is rd ro l lines35 block in
      let b : ℕ = l.base in
      let limits = room_1 {e = d + 1} room (omega arith) (¬ᵗ ⊥ᵗ) in
      R5-at ro d (room_0 room (omega arith)) (b + 5) (b + 0) (rd (part_of l 0) 1) (b + 4) (b + 1) (b + 3) (b + 2) (omega arith)
      (at 5 refl) (at 0 refl) (at 4 refl) (at 3 refl) e refl closed
      (R10-at ro (d + 1) limits (b + 1) (omega arith) (at 1 refl))
      (BR3-at ro (d + 1) limits (b + 2) (omega arith) (at 2 refl) (in_longer (¬ᵗ ⊥ᵗ ∷ []) m))

  -- R5 u=t [R9 (index 0 = t), (t=u), (t=t) [BR3; R10]; BR3]
  pub block36 : (t u : Tree) → Block rd ro l lines36 → Room Γ d →
      (part_of l 0 < l.base) × (rd (part_of l 0) 1 < l.base) × (rd (part_of l 0) 2 < l.base) → bare_tree ro (part_of l 0) ≡ t =ᵗ u →
      bare_tree ro (rd (part_of l 0) 1) ≡ t → bare_tree ro (rd (part_of l 0) 2) ≡ u → NoIndex (t =ᵗ u) → (t =ᵗ u) ∈ Γ → (¬ᵗ (u =ᵗ t)) ∈ Γ →
      Derives ro Γ ⊥ᵗ d (l.base + 16) 5
  unfolding value class kind_of if_lt
  block36 t u block room below e et eu closed m k =
      let at = line_is rd ro l lines36 block in
      let b : ℕ = l.base in
      let first = (under_equal closed).0 in
      let second = (under_equal closed).1 in
      let goal = equal_tree ro (b + 0) (rd (part_of l 0) 2) (rd (part_of l 0) 1) (omega arith) (at 0 refl) eu et in
      let same = equal_tree ro (b + 1) (rd (part_of l 0) 1) (rd (part_of l 0) 1) (omega arith) (at 1 refl) et et in
      let index = index_tree ro (b + 2) _ (omega arith) (at 2 refl) in
      let opened = equal_tree ro (b + 3) (b + 2) (rd (part_of l 0) 1) (omega arith) (at 3 refl) index et in
      let at_t : t =ᵗ t ≡ (index0 =ᵗ t) ⟨ t ⟩ = sym (replaced_equal t t first) in
      let limits = room_1 {e = d + 1} room (omega arith) (¬ᵗ ⊥ᵗ) in
      let deeper = room_1 {e = d + 1 + 1} room (omega arith) (¬ᵗ ⊥ᵗ) in
      R5-at ro d (room_0 room (omega arith)) (b + 16) (b + 12) (b + 0) (b + 15) (b + 11) (b + 14) (b + 13) (omega arith)
      (at 16 refl) (at 12 refl) (at 15 refl) (at 14 refl) goal refl (over_equal second first)
      (subst (λ (P : Tree). Derives ro (Γ ▹ ¬ᵗ ⊥ᵗ) P (d + 1) (b + 11) 3) (replaced_equal t u first)
      (R9-at ro (d + 1) limits (b + 11) (b + 6) (b + 3) (index0 =ᵗ t) t u (b + 5) (part_of l 0) (b + 4) (b + 1) (b + 10) (b + 7) (b + 9) (b + 8) (omega arith)
      (at 11 refl) (at 6 refl) (at 5 refl) (at 4 refl) (at 10 refl) (at 9 refl) opened e (same ∙ at_t)
      refl (subst IsFormula at_t refl) (equal_open t first) closed (subst NoIndex at_t (over_equal first first))
      (BR3-at ro (d + 1 + 1) deeper (b + 7) (omega arith) (at 7 refl) (in_longer (¬ᵗ ⊥ᵗ ∷ []) m))
      (subst (λ (P : Tree). Derives ro (Γ ▹ ¬ᵗ ⊥ᵗ) P (d + 1 + 1) (b + 8) 1) at_t (R10-at ro (d + 1 + 1) deeper (b + 8) (omega arith) (at 8 refl)))))
      (BR3-at ro (d + 1) limits (b + 13) (omega arith) (at 13 refl) (in_longer (¬ᵗ ⊥ᵗ ∷ []) k))

  -- BR4 ¬P [R6 ⊥ [premise 0; BR6]; premise 1]
  pub block37 : (P : Tree) (i j : ℕ) → Block rd ro l lines37 → Room Γ d →
      (l.node < l.base) × (part_of l 0 < l.base) × (conclusion_of l 0 < l.base) × (conclusion_of l 1 < l.base) →
      bare_tree ro l.node ≡ ⊥ᵗ → bare_tree ro (part_of l 0) ≡ P → NoIndex P →
      Derives ro (Γ ▹ P) ⊥ᵗ (d + 2) (conclusion_of l 0) i → Derives ro (Γ ▹ ¬ᵗ P) ⊥ᵗ (d + 1) (conclusion_of l 1) j →
      Derives ro Γ ⊥ᵗ d (l.base + 9) (suc (suc (i + 1) + j))
  unfolding value class kind_of if_lt
  block37 P i j block room below bottom e closed one two =
      let at = line_is rd ro l lines37 block in
      let b : ℕ = l.base in
      BR4-at ro d (room_0 room (omega arith)) (b + 9) (b + 6) (b + 0) (b + 8) (b + 5) (b + 7) (conclusion_of l 1) (omega arith)
      (at 9 refl) (at 6 refl) (at 8 refl) (at 7 refl) (not_tree ro (b + 0) (part_of l 0) (omega arith) (at 0 refl) e) refl (over_not closed)
      (R6-at ro (d + 1) (room_0 room (omega arith)) (b + 5) (b + 1) l.node (b + 4) (conclusion_of l 0) (b + 3) (b + 2) (omega arith)
      (at 5 refl) (at 1 refl) (at 4 refl) (at 3 refl) bottom refl over_false (level_2 d one)
      (BR6-at ro (d + 1 + 1) (room_1 room (omega arith) P) (b + 2) (omega arith) (at 2 refl)))
      two

  -- BR4 P [R5 ¬P [BR3; BR3]; premise 0]
  pub block38 : (P : Tree) (i : ℕ) → Block rd ro l lines38 → Room Γ d →
      (rd (part_of l 0) 1 < l.base) × (rd (rd (part_of l 0) 1) 1 < l.base) × (conclusion_of l 0 < l.base) →
      bare_tree ro (rd (part_of l 0) 1) ≡ ¬ᵗ P → bare_tree ro (rd (rd (part_of l 0) 1) 1) ≡ P → IsFormula P → NoIndex P → (¬ᵗ (¬ᵗ P)) ∈ Γ →
      Derives ro (Γ ▹ P) ⊥ᵗ (d + 1) (conclusion_of l 0) i → Derives ro Γ ⊥ᵗ d (l.base + 9) (suc (3 + i))
  unfolding value class kind_of if_lt
  block38 P i block room below negated e formula closed m one =
      let at = line_is rd ro l lines38 block in
      let b : ℕ = l.base in
      let limits = room_1 {e = d + 1 + 1} room (omega arith) (¬ᵗ P) in
      BR4-at ro d (room_0 room (omega arith)) (b + 9) (b + 6) (rd (rd (part_of l 0) 1) 1) (b + 8) (b + 5) (b + 7) (conclusion_of l 0) (omega arith)
      (at 9 refl) (at 6 refl) (at 8 refl) (at 7 refl) e formula closed
      (R5-at ro (d + 1) (room_0 room (omega arith)) (b + 5) (b + 0) (rd (part_of l 0) 1) (b + 4) (b + 1) (b + 3) (b + 2) (omega arith)
      (at 5 refl) (at 0 refl) (at 4 refl) (at 3 refl) negated refl (over_not closed)
      (BR3-at ro (d + 1 + 1) limits (b + 1) (omega arith) (at 1 refl) (in_last Γ (¬ᵗ P)))
      (BR3-at ro (d + 1 + 1) limits (b + 2) (omega arith) (at 2 refl) (in_longer (¬ᵗ P ∷ []) m)))
      one

  -- BR4 P [R2 P∧Q [BR3]; BR4 Q [R2' P∧Q [BR3]; premise 0]]
  pub block39 : (P Q : Tree) (i : ℕ) → Block rd ro l lines39 → Room Γ d →
      (part_of l 0 < l.base) × (rd (part_of l 0) 1 < l.base) × (rd (part_of l 0) 2 < l.base) × (conclusion_of l 0 < l.base) →
      bare_tree ro (part_of l 0) ≡ P ∧ᵗ Q → bare_tree ro (rd (part_of l 0) 1) ≡ P → bare_tree ro (rd (part_of l 0) 2) ≡ Q →
      IsFormula P → IsFormula Q → NoIndex (P ∧ᵗ Q) → (P ∧ᵗ Q) ∈ Γ →
      Derives ro (Γ ▹ P ▹ Q) ⊥ᵗ (d + 2) (conclusion_of l 0) i → Derives ro Γ ⊥ᵗ d (l.base + 14) (suc (2 + suc (2 + i)))
  unfolding value
  block39 P Q i block room below e ep eq formula-p formula-q closed m one =
      let at = line_is rd ro l lines39 block in
      let b : ℕ = l.base in
      BR4-at ro d (room_0 room (omega arith)) (b + 14) (b + 11) (rd (part_of l 0) 1) (b + 13) (b + 3) (b + 12) (b + 10) (omega arith)
      (at 14 refl) (at 11 refl) (at 13 refl) (at 12 refl) ep formula-p (under_and closed).0
      (R2-at ro (d + 1) (room_0 room (omega arith)) (b + 3) (b + 0) (part_of l 0) (b + 2) (b + 1) (omega arith)
      (at 3 refl) (at 0 refl) (at 2 refl) e closed
      (BR3-at ro (d + 1 + 1) (room_0 room (omega arith)) (b + 1) (omega arith) (at 1 refl) m))
      (BR4-at ro (d + 1) (room_1 room (omega arith) P) (b + 10) (b + 7) (rd (part_of l 0) 2) (b + 9) (b + 6) (b + 8) (conclusion_of l 0) (omega arith)
      (at 10 refl) (at 7 refl) (at 9 refl) (at 8 refl) eq formula-q (under_and closed).1
      (R2'-at ro (d + 1 + 1) (room_1 room (omega arith) P) (b + 6) (b + 0) (part_of l 0) (b + 5) (b + 4) (omega arith)
      (at 6 refl) (at 0 refl) (at 5 refl) e closed
      (BR3-at ro (d + 1 + 1 + 1) (room_1 room (omega arith) P) (b + 4) (omega arith) (at 4 refl) (in_longer (P ∷ []) m)))
      (level_2 d one))

  -- BR4 P⇒Q [R3 [R5 ⊥ [premise 0; BR6]]; R5 P⇒Q [BR3; BR3]]
  pub block40 : (P Q : Tree) (i : ℕ) → Block rd ro l lines40 → Room Γ d →
      (l.node < l.base) × (rd (part_of l 0) 1 < l.base) × (conclusion_of l 0 < l.base) →
      bare_tree ro l.node ≡ ⊥ᵗ → bare_tree ro (rd (part_of l 0) 1) ≡ P ⇒ᵗ Q → NoIndex (P ⇒ᵗ Q) → (¬ᵗ (P ⇒ᵗ Q)) ∈ Γ →
      Derives ro (Γ ▹ P ▹ ¬ᵗ Q) ⊥ᵗ (d + 3) (conclusion_of l 0) i → Derives ro Γ ⊥ᵗ d (l.base + 15) (suc (suc (suc (i + 1)) + 3))
  unfolding value class kind_of if_lt
  block40 P Q i block room below bottom e closed m one =
      let at = line_is rd ro l lines40 block in
      let b : ℕ = l.base in
      let limits = room_2 {e = d + 1 + 1} room (omega arith) (P ⇒ᵗ Q) (¬ᵗ ⊥ᵗ) in
      BR4-at ro d (room_0 room (omega arith)) (b + 15) (b + 7) (rd (part_of l 0) 1) (b + 14) (b + 6) (b + 13) (b + 12) (omega arith)
      (at 15 refl) (at 7 refl) (at 14 refl) (at 13 refl) e refl closed
      (R3-at ro (d + 1) (room_0 room (omega arith)) (b + 6) (b + 5) (b + 4) (omega arith) (at 6 refl) (at 5 refl)
      (R5-at ro (d + 1 + 1) (room_1 room (omega arith) P) (b + 4) (b + 0) l.node (b + 3) (conclusion_of l 0) (b + 2) (b + 1) (omega arith)
      (at 4 refl) (at 0 refl) (at 3 refl) (at 2 refl) bottom refl over_false (level_3 d one)
      (BR6-at ro (d + 1 + 1 + 1) (room_2 room (omega arith) P (¬ᵗ Q)) (b + 1) (omega arith) (at 1 refl))))
      (R5-at ro (d + 1) (room_1 room (omega arith) (P ⇒ᵗ Q)) (b + 12) (b + 7) (rd (part_of l 0) 1) (b + 11) (b + 8) (b + 10) (b + 9) (omega arith)
      (at 12 refl) (at 7 refl) (at 11 refl) (at 10 refl) e refl closed
      (BR3-at ro (d + 1 + 1) limits (b + 8) (omega arith) (at 8 refl) (in_longer (¬ᵗ ⊥ᵗ ∷ []) (in_last Γ (P ⇒ᵗ Q))))
      (BR3-at ro (d + 1 + 1) limits (b + 9) (omega arith) (at 9 refl) (in_longer (¬ᵗ ⊥ᵗ ∷ []) (in_longer (P ⇒ᵗ Q ∷ []) m))))

  -- BR4 Q [MP P⇒Q [R5 ⊥ [premise 0; BR6]; BR3]; premise 1]
  pub block41 : (P Q : Tree) (i j : ℕ) → Block rd ro l lines41 → Room Γ d →
      (l.node < l.base) × (part_of l 0 < l.base) × (rd (part_of l 0) 2 < l.base) × (conclusion_of l 0 < l.base) × (conclusion_of l 1 < l.base) →
      bare_tree ro l.node ≡ ⊥ᵗ → bare_tree ro (part_of l 0) ≡ P ⇒ᵗ Q → bare_tree ro (rd (part_of l 0) 2) ≡ Q → IsFormula Q → NoIndex (P ⇒ᵗ Q) →
      (P ⇒ᵗ Q) ∈ Γ → Derives ro (Γ ▹ ¬ᵗ P) ⊥ᵗ (d + 3) (conclusion_of l 0) i → Derives ro (Γ ▹ Q) ⊥ᵗ (d + 1) (conclusion_of l 1) j →
      Derives ro Γ ⊥ᵗ d (l.base + 13) (suc (suc (suc (i + 1) + 1) + j))
  unfolding value class kind_of if_lt
  block41 P Q i j block room below bottom e eq formula closed m one two =
      let at = line_is rd ro l lines41 block in
      let b : ℕ = l.base in
      BR4-at ro d (room_0 room (omega arith)) (b + 13) (b + 10) (rd (part_of l 0) 2) (b + 12) (b + 9) (b + 11) (conclusion_of l 1) (omega arith)
      (at 13 refl) (at 10 refl) (at 12 refl) (at 11 refl) eq formula (under_implies closed).1
      (MP-at ro (d + 1) (room_0 room (omega arith)) (b + 9) (b + 6) (part_of l 0) (b + 8) (b + 4) (b + 7) (b + 5) (omega arith)
      (at 9 refl) (at 6 refl) (at 8 refl) (at 7 refl) e closed
      (R5-at ro (d + 1 + 1) (room_0 room (omega arith)) (b + 4) (b + 0) l.node (b + 3) (conclusion_of l 0) (b + 2) (b + 1) (omega arith)
      (at 4 refl) (at 0 refl) (at 3 refl) (at 2 refl) bottom refl over_false (level_3 d one)
      (BR6-at ro (d + 1 + 1 + 1) (room_1 room (omega arith) (¬ᵗ P)) (b + 1) (omega arith) (at 1 refl)))
      (BR3-at ro (d + 1 + 1) (room_0 room (omega arith)) (b + 5) (omega arith) (at 5 refl) m))
      two
