-- Bytes written into a lent buffer, one stretch after the other.
use Rattle.std.specs.Prelude.{ℕ, suc, ◌+◌, ◌*◌, ◌/◌, ◌%◌, ◌<◌, ◌≤◌, ◌≡◌, refl, List, [], ◌++◌, length, take, drop, get_or, set}
use Rattle.std.proofs.Common.{sym, ap, ◌∙◌, append_assoc, length-append, length-drop, take_at, drop-drop, length-take-le, get_or-drop, arith, add-one}
use Rattle.std.proofs.Math.Seq.{drop-append-add, paste, paste-zero, paste-suc}
use Rattle.std.proofs.lemmas.List.Edits.{sets-eq}
use Rattle.std.proofs.Math.Numerals.{towards_suc}
use Rattle.translation_rules.specs.Bytes.{bytes4, bytes16}

-- the list with vs in place of what stood from `at` on
unfoldable pub put : List ℕ → ℕ → List ℕ → List ℕ
put l at vs = take at l ++ vs ++ drop (at + length vs) l

-- nothing written
pub put_nothing : (l : List ℕ) (at : ℕ) → l ≡ put l at []
unfolding put
put_nothing l at = paste-zero l at []

-- two stretches, one after the other
pub put_put : (l : List ℕ) (at : ℕ) (vs ws : List ℕ) (next : ℕ) → next ≡ at + length vs → next + length ws ≤ length l →
    put (put l at vs) next ws ≡ put l at (vs ++ ws)
unfolding put
put_put l at vs ws next e h =
    let head : length (take at l ++ vs) ≡ next = length-append (take at l) vs ∙ omega (arith, length-take-le at l (omega arith)) in
    let both : at + length vs + length ws ≡ at + length (vs ++ ws) = omega (arith, length-append vs ws) in
    let back : drop (next + length ws) (take at l ++ vs ++ drop (at + length vs) l) ≡ drop (at + length (vs ++ ws)) l =
    rw (← head)
    (drop-append-add (take at l ++ vs) (drop (at + length vs) l) (length ws)
    ∙ drop-drop (length ws) (at + length vs) l ∙ ap (λ (n : ℕ). drop n l) both) in
    rw (take_at (take at l ++ vs) (drop (at + length vs) l) next head, back) (simp append_assoc)

-- The way out of `put_word`: four stores.
pub stored4 : (l : List ℕ) (at v : ℕ) → at + 4 ≤ length l →
    set (set (set (set l at (v % 256)) (at + 1) (v / 256 % 256)) (at + 2) (v / 65536 % 256)) (at + 3) (v / 16777216 % 256) ≡ put l at (bytes4 v)
unfolding put
stored4 l at v h = simp towards_suc (simp towards_suc at (sets-eq (bytes4 v) l at h))

-- The way out of `put_record`.
pub stored16 : (r k a b c : ℕ) (l0 l1 l2 l3 l4 : List ℕ) → 16 * r + 16 ≤ length l0 →
    l1 ≡ put l0 (16 * r) (bytes4 k) → l2 ≡ put l1 (16 * r + 4) (bytes4 a) → l3 ≡ put l2 (16 * r + 8) (bytes4 b) → l4 ≡ put l3 (16 * r + 12) (bytes4 c) →
    l4 ≡ put l0 (16 * r) (bytes16 k a b c)
stored16 r k a b c l0 l1 l2 l3 l4 h e1 e2 e3 e4 =
    let p2 : l2 ≡ put l0 (16 * r) (bytes4 k ++ bytes4 a) =
    e2 ∙ rw e1 (put_put l0 (16 * r) (bytes4 k) (bytes4 a) (16 * r + 4) refl (omega arith)) in
    let p3 : l3 ≡ put l0 (16 * r) (bytes4 k ++ (bytes4 a ++ bytes4 b)) =
    e3 ∙ rw p2 (put_put l0 (16 * r) (bytes4 k ++ bytes4 a) (bytes4 b) (16 * r + 8) refl (omega arith)) in
    e4 ∙ rw p3 (put_put l0 (16 * r) (bytes4 k ++ (bytes4 a ++ bytes4 b)) (bytes4 c) (16 * r + 12) refl (omega arith))

-- The way out of `copy_record`: as many bytes of the file in their place.
pub copied : (old file : List ℕ) (r n : ℕ) → n ≡ 16 → 16 * r + 16 ≤ length file →
    take (16 * r) old ++ (take n (drop (16 * r) file) ++ drop n (drop (16 * r) old)) ≡ put old (16 * r) (take 16 (drop (16 * r) file))
unfolding put
copied old file r n e h =
    let vs : List ℕ = take 16 (drop (16 * r) file) in
    let long : length vs ≡ 16 = length-take-le 16 (drop (16 * r) file) (omega (arith, length-drop (16 * r) file)) in
    let rest : drop 16 (drop (16 * r) old) ≡ drop (16 * r + 16) old = drop-drop 16 (16 * r) old in
    rw (e, rest, long) (sym (append_assoc (take (16 * r) old) vs (drop (16 * r + 16) old)))
