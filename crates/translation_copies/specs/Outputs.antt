-- What a reader says of records 0 to `last` that has the copied records there, whatever stands after them.
use Rattle.std.specs.Prelude.{ℕ, ◌≤◌, ◌≡◌, true, false}
use Rattle.std.proofs.Common.{sym, ap, ◌∙◌}
use Rattle.reader.specs.Words.{Reader}
use Rattle.reader.specs.Tests.{every}
use Rattle.reader.specs.Kinds.{is_rule, class, class_at}
use Rattle.reader.specs.Trees.{tree, ⊥ᵗ}
use Rattle.reader.specs.Chains.{linked, items}
use Rattle.reader.specs.Records.{has_class}
use Rattle.reader_laws.specs.Record.{Sound}
use Rattle.reader_laws.specs.Agree.{tree_agrees, linked_agrees, items_agrees, sound_agrees}
use Rattle.translation_rules.specs.Output.{copied}
use Rattle.translation_copies.specs.Copies.{copied_word, copied_kept, copied_class, copied_tree, copied_chain_tree}
use Rattle.translation_copies.specs.Kept.{chain_linked, chain_items}
use Rattle.translation_copies.specs.Sound.{copied_bottom_tree, copied_sound}

module _ (rd : Reader) (last : ℕ) (ro : Reader) (agree : (i w : ℕ) → i ≤ last → ro i w ≡ copied rd i w) where
  -- a record that is no rule node has its words
  pub output_word : (i w : ℕ) → i ≤ last → is_rule 1 (rd i 0) ≡ false → ro i w ≡ rd i w
  output_word i w h e = agree i w h ∙ copied_word rd i w e

  -- so does a record that has a class
  pub output_kept : (i w : ℕ) → i ≤ last → 1 ≤ class (rd i 0) → ro i w ≡ rd i w
  output_kept i w h k = agree i w h ∙ copied_kept rd i k w

  -- which is its own
  pub output_class : (i : ℕ) → i ≤ last → 1 ≤ class (rd i 0) → class (ro i 0) ≡ class (rd i 0)
  output_class i h k = ap class (agree i 0 h) ∙ copied_class rd i k

  -- a rule node's place is ⊥
  pub output_bottom : (i : ℕ) → 1 ≤ i → i ≤ last → is_rule 1 (rd i 0) ≡ true → tree ro i ≡ ⊥ᵗ
  output_bottom i p h e = tree_agrees ro (copied rd) last agree i h ∙ copied_bottom_tree rd i p e

  -- The proof's records 1 to `last` have no faults.
  module _ (sound : (i : ℕ) → 1 ≤ i → i ≤ last → Sound 1 rd i) where
    -- a type, a term, a formula, a function and a record of kind 22 have their trees
    pub output_tree : (i : ℕ) → i ≤ last → 3 ≤ class (rd i 0) → tree ro i ≡ tree rd i
    output_tree i h k = tree_agrees ro (copied rd) last agree i h ∙ copied_tree rd last sound i h k

    -- and so has a chain of such records
    pub output_chain_tree : (i : ℕ) → i ≤ last → class_at rd i ≡ 1 → (c : ℕ) → 3 ≤ c → every (has_class rd c) (items rd i) ≡ true → tree ro i ≡ tree rd i
    output_chain_tree i h e c k all = tree_agrees ro (copied rd) last agree i h ∙ copied_chain_tree rd last sound i h e c k all

    -- a chain that starts with a link, or with nothing, has its links and its items
    module _ (c : ℕ) (h : c ≤ last) (link : (c ≡ 0 → ⊥) → class_at rd c ≡ 1) where
      pub output_linked : linked ro c ≡ linked rd c
      output_linked = linked_agrees ro (copied rd) last agree c h ∙ chain_linked rd last sound c h link

      pub output_items : items ro c ≡ items rd c
      output_items = items_agrees ro (copied rd) last agree c h ∙ chain_items rd last sound c h link

    -- no record up to `last` has a fault in a derivation
    pub output_sound : (i : ℕ) → 1 ≤ i → i ≤ last → Sound 2 ro i
    output_sound i p h = sound_agrees (copied rd) ro last (λ j w l. sym (agree j w l)) 2 (copied_sound rd last sound) i p h
