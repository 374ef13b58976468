-- Nodes listed into a lent area, up to a number of them.
use Prim.Native.Nat.{ℕ, zero, suc, ◌+◌, ◌-◌, ◌*◌, ◌<◌, ◌≤◌}
use Rattle.std.specs.Prelude.{◌≡◌, refl, length, take}
use Rattle.std.proofs.Common.{sym, ap, ◌∙◌, length-append}
use mathlib.Core.List.{List, [], ◌∷◌, ◌++◌, append_assoc, append-nil, flat_map}
use native.Mathlib.Omega.{arith}
use Rattle.std.proofs.Math.Seq.{take-nil}
use Rattle.reader.specs.Words.{Reader}
use Rattle.programs_text.specs.Text.{Appended}
use Rattle.programs_text.specs.TextLaws.{appended_none, appended_more}
use Rattle.reader.specs.Trees.{lower}
use Rattle.reader.specs.TreeLaws.{lower_below}
use Rattle.tree_rules.specs.Order.{Node, node_at, order}
use Rattle.tree_rules.specs.OrderLaws.{order_from, order_zero, order_node, order_end, order_link}
use Rattle.tree_rules.specs.Listing.{node_line, node_lines}

-- The lines of the first `left` of the nodes stand in an area that held `before` from place `at` on, and end at place `end`. After them `rest` nodes are left
-- to list, and room for these is left of what there was.
pub record Lists (rd : Reader) (nodes : List Node) (before : List ℕ) (at left : ℕ) (after : List ℕ) (end rest : ℕ) : Type 0 where
  pub appended : Appended before at (node_lines rd (take left nodes)) after end
  pub remain : rest ≡ left - length nodes
  pub room : end + 84 * rest ≤ at + 84 * left

-- the first of two lists of nodes
take_both : (n : ℕ) (xs ys : List Node) → take n (xs ++ ys) ≡ take n xs ++ take (n - length xs) ys
take_both n [] ys = let all : n - 0 ≡ n = omega arith in rw (take-nil n, all)
take_both zero (x ∷ xs) ys = let none : 0 - suc (length xs) ≡ 0 = omega arith in rw none
take_both (suc n) (x ∷ xs) ys =
    let less : suc n - suc (length xs) ≡ n - length xs = omega arith in rw less (ap (λ (l : List Node). x ∷ l) (take_both n xs ys))

lines_both : (rd : Reader) (xs ys : List Node) → node_lines rd (xs ++ ys) ≡ node_lines rd xs ++ node_lines rd ys
unfolding node_lines flat_map
lines_both rd [] ys = refl
lines_both rd (x ∷ xs) ys = ap (λ (l : List ℕ). node_line rd x ++ l) (lines_both rd xs ys) ∙ sym (append_assoc (node_line rd x) (node_lines rd xs) (node_lines rd ys))

module _ (rd : Reader) where
  -- no node
  none_listed : (area : List ℕ) (at left : ℕ) → Lists rd [] area at left area at left
  unfolding node_lines flat_map
  none_listed area at left = record { appended = rw (take-nil left) (appended_none area at); remain = omega arith; room = omega arith }

  -- no node is left
  pub none_left : (nodes : List Node) (area : List ℕ) (at left : ℕ) → left ≡ 0 → Lists rd nodes area at left area at left
  unfolding node_lines flat_map
  none_left nodes area at left e = record { appended = rw e (appended_none area at); remain = omega arith; room = omega arith }

  -- nodes, and then others
  more_listed : (first second : List Node) (before middle after : List ℕ) (at left end rest last over : ℕ) → Lists rd first before at left middle end rest →
      Lists rd second middle end rest after last over → Lists rd (first ++ second) before at left after last over
  more_listed first second before middle after at left end rest last over one two =
      let text : node_lines rd (take left (first ++ second)) ≡ node_lines rd (take left first) ++ node_lines rd (take rest second) =
      rw (take_both left first second, lines_both rd (take left first) (take (left - length first) second), one.remain) in
      record {
        appended = rw text (appended_more before _ middle _ after at end last one.appended two.appended);
        remain = omega (arith, one.remain, two.remain, length-append first second);
        room = omega (arith, one.room, two.room);
      }

  -- The ways out of `list_links`.
  pub links_end : (c depth : ℕ) (area : List ℕ) (at left : ℕ) → c ≡ 0 → Lists rd (order_from rd c depth) area at left area at left
  links_end c depth area at left e = rw (e, order_end rd depth) (none_listed area at left)

  pub links_listed : (c x next depth : ℕ) (before middle after : List ℕ) (at left end rest last over : ℕ) → (c ≡ 0 → ⊥) → x ≡ lower rd c 1 → next ≡ lower rd c 3 →
      Lists rd (order rd x depth) before at left middle end rest → Lists rd (order_from rd next depth) middle end rest after last over →
      Lists rd (order_from rd c depth) before at left after last over
  links_listed c x next depth before middle after at left end rest last over pos ex en one two =
      rw (order_link rd c depth (omega arith), ← ex, ← en) (more_listed _ _ before middle after at left end rest last over one two)

  -- The ways out of `list_node`.
  pub node_none : (n depth : ℕ) (area : List ℕ) (at left : ℕ) → n ≡ 0 → Lists rd (order rd n depth) area at left area at left
  node_none n depth area at left e = rw (e, order_zero rd depth) (none_listed area at left)

  -- one node
  one_listed : (p : Node) (before after : List ℕ) (at left end : ℕ) → (left ≡ 0 → ⊥) → Appended before at (node_line rd p) after end → end ≤ at + 84 →
      Lists rd (p ∷ []) before at left after end (left - 1)
  unfolding node_lines flat_map
  one_listed p before after at zero end pos w few = absurd (pos refl)
  one_listed p before after at (suc left) end pos w few =
      let text : node_lines rd (take (suc left) (p ∷ [])) ≡ node_line rd p = rw (take-nil left) (append-nil (node_line rd p)) in
      record { appended = rw text w; remain = omega arith; room = omega arith }

  pub node_listed : (n c depth : ℕ) (before middle after : List ℕ) (at left end last over : ℕ) → (n ≡ 0 → ⊥) → (left ≡ 0 → ⊥) → c ≡ lower rd n 2 →
      Appended before at (node_line rd (node_at depth n)) middle end → end ≤ at + 84 →
      Lists rd (order_from rd c (depth + 1)) middle end (left - 1) after last over → Lists rd (order rd n depth) before at left after last over
  node_listed n c depth before middle after at left end last over pos some ec w few two =
      rw (order_node rd n depth (omega arith), ← ec)
      (more_listed (node_at depth n ∷ []) _ before middle after at left end (left - 1) last over (one_listed (node_at depth n) before middle at left end some w few) two)

  -- the record number falls
  pub number_falls : (i x w t : ℕ) → i ≡ t → (i ≡ 0 → ⊥) → x ≡ lower rd i w → x < t
  number_falls i x w t e pos ex = omega (arith, lower_below rd i w (omega arith))
