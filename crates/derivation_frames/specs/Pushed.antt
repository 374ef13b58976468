-- The frame of a premise: what it stands for, and that it is as the code makes them.
use Prim.Native.Nat.{ℕ, zero, suc, ◌+◌, ◌*◌, ◌-◌, ◌<◌, ◌≤◌}
use Rattle.std.specs.Prelude.{◌≡◌, List, ◌++◌, Bool, true, false, ltb, get_or, set}
use Rattle.std.proofs.Math.Path.{refl}
use Rattle.std.proofs.Common.{sym, ap, ◌∙◌, append_assoc, append-nil, length-append, ltb-true, ltb-false}
use Rattle.std.proofs.Math.ListN.{length, length-set}
use Rattle.std.proofs.Math.Seq.{get_or-set_same, get_or-set_other}
use native.Mathlib.Omega.{arith}
use Rattle.reader.specs.Words.{Reader}
use Rattle.derivation_trees.specs.Keys.{negations_of, Normal}
use Rattle.derivation_frames.specs.Frames.{frame_word, start_at, goal_at, entry_at, count_at, added_by, added_from, chain_trees, members_at, Framed, Kept, Written}

-- one frame more adds its member at the end
added_last : (rd : Reader) (frames : List ℕ) (k f : ℕ) → added_from rd frames (suc k) f ≡ added_from rd frames k f ++ added_by rd (entry_at frames (k + f))
unfolding added_from
added_last rd frames zero f = let first : 0 + f ≡ f = omega arith in rw first (append-nil (added_by rd (entry_at frames f)))
added_last rd frames (suc k) f =
    let last : k + suc f ≡ suc k + f = omega arith in
    rw (added_last rd frames k (suc f), last) (sym (append_assoc (added_by rd (entry_at frames f)) (added_from rd frames k (suc f)) (added_by rd (entry_at frames (suc k + f)))))

pub written_kept : (d start goal entry count : ℕ) (before after : List ℕ) → Written (d + 1) start goal entry count before after → Kept d before after
written_kept d start goal entry count before after w = record { same = λ i h. w.below i (omega arith) }

-- four numbers stored
module _ (d start goal entry count : ℕ) (frames : List ℕ) where
  abbrev one : List ℕ
  one = set frames (4 * d) start

  abbrev two : List ℕ
  two = set one (4 * d + 1) goal

  abbrev three : List ℕ
  three = set two (4 * d + 2) entry

  abbrev pub four : List ℕ
  four = set three (4 * d + 3) count

  elsewhere : (i : ℕ) → (i ≡ 4 * d → ⊥) → (i ≡ 4 * d + 1 → ⊥) → (i ≡ 4 * d + 2 → ⊥) → (i ≡ 4 * d + 3 → ⊥) → get_or four i 0 ≡ get_or frames i 0
  elsewhere i p q r s =
      get_or-set_other three (4 * d + 3) i count 0 (λ z. omega (arith, s, z)) ∙ get_or-set_other two (4 * d + 2) i entry 0 (λ z. omega (arith, r, z))
      ∙ get_or-set_other one (4 * d + 1) i goal 0 (λ z. omega (arith, q, z)) ∙ get_or-set_other frames (4 * d) i start 0 (λ z. omega (arith, p, z))

  pub four_written : 4 * d + 3 < length frames → Written d start goal entry count frames four
  unfolding start_at goal_at entry_at count_at frame_word
  four_written room =
      let l1 : length one ≡ length frames = length-set frames (4 * d) start in
      let l2 : length two ≡ length one = length-set one (4 * d + 1) goal in
      let l3 : length three ≡ length two = length-set two (4 * d + 2) entry in
      let zero_more : 4 * d + 0 ≡ 4 * d = omega arith in
      record {
        below = λ i h. elsewhere i (λ z. omega arith) (λ z. omega arith) (λ z. omega arith) (λ z. omega arith);
        above = λ i h. elsewhere i (λ z. omega arith) (λ z. omega arith) (λ z. omega arith) (λ z. omega arith);
        start_is = rw zero_more
            (get_or-set_other three (4 * d + 3) (4 * d) count 0 (λ z. omega arith) ∙ get_or-set_other two (4 * d + 2) (4 * d) entry 0 (λ z. omega arith)
            ∙ get_or-set_other one (4 * d + 1) (4 * d) goal 0 (λ z. omega arith) ∙ get_or-set_same frames (4 * d) start 0 (omega arith));
        goal_is =
            get_or-set_other three (4 * d + 3) (4 * d + 1) count 0 (λ z. omega arith) ∙ get_or-set_other two (4 * d + 2) (4 * d + 1) entry 0 (λ z. omega arith)
            ∙ get_or-set_same one (4 * d + 1) goal 0 (omega arith);
        entry_is =
            get_or-set_other three (4 * d + 3) (4 * d + 2) count 0 (λ z. omega arith) ∙ get_or-set_same two (4 * d + 2) entry 0 (omega arith);
        count_is = get_or-set_same three (4 * d + 3) count 0 (omega arith);
      }

-- a premise that keeps the members, and adds what entry e adds
module _ (rd : Reader) (size d goal e count : ℕ) (before after : List ℕ) (here : Framed rd size before d)
    (w : Written (d + 1) (start_at before d) goal e count before after) where
  entry_same : (f : ℕ) → f ≤ d → entry_at after f ≡ entry_at before f
  unfolding entry_at frame_word
  entry_same f p = w.below (4 * f + 2) (omega arith)

  added_same : (k f : ℕ) → k + f ≤ suc d → added_from rd after k f ≡ added_from rd before k f
  unfolding added_from
  added_same zero f p = refl
  added_same (suc k) f p = rw (entry_same f (omega arith), added_same k (suc f) (omega arith)) refl

  pub members_added : members_at rd after (d + 1) ≡ members_at rd before d ++ added_by rd e
  unfolding members_at
  members_added =
      let s = start_at before d in
      let low : start_at before d ≤ d = here.start in
      let one : d + 1 - start_at before d ≡ suc (d - start_at before d) = omega arith in
      let last : d - start_at before d + suc (start_at before d) ≡ d + 1 = omega arith in
      rw (w.start_is, entry_same s low, one, added_last rd after (d - s) (suc s), last, w.entry_is, added_same (d - s) (suc s) (omega arith))
      (sym (append_assoc (chain_trees rd (entry_at before s)) (added_from rd before (d - s) (suc s)) (added_by rd e)))

  pub framed_added : d ≤ 8192 → length after ≡ length before → Normal rd size goal → negations_of goal ≤ size + d + 1 → ((e ≡ 0 → ⊥) → Normal rd size (e - 1)) →
      count ≡ count_at before d + length (added_by rd e) → count ≤ 2048 → Framed rd size after (d + 1)
  framed_added deep l normal few own more low = record {
    long = l ∙ here.long;
    deep = omega arith;
    start = rw w.start_is (omega (arith, here.start));
    chain = rw (w.start_is, entry_same (start_at before d) here.start) here.chain;
    goal = rw w.goal_is normal;
    few = rw w.goal_is (omega arith);
    added = λ f p q given. go f (rw w.start_is at p) q given (ltb f (d + 1)) refl;
    count = w.count_is ∙ more ∙ sym (ap length members_added ∙ length-append (members_at rd before d) (added_by rd e) ∙ ap (λ (n : ℕ). n + length (added_by rd e)) (sym here.count));
    low = rw w.count_is low;
  }
    where
      go : (f : ℕ) → start_at before d < f → f ≤ d + 1 → (entry_at after f ≡ 0 → ⊥) → (b : Bool) → ltb f (d + 1) ≡ b → Normal rd size (entry_at after f - 1)
      go f p q given true t =
          let less : f < d + 1 = ltb-true f (d + 1) t in
          let same : entry_at after f ≡ entry_at before f = entry_same f (omega arith) in
          rw same (here.added f p (omega arith) (λ z. given (same ∙ z)))
      go f p q given false t =
          let high : d + 1 ≤ f = ltb-false f (d + 1) t in
          let one : f ≡ d + 1 = omega arith in
          let same : entry_at after f ≡ e = ap (entry_at after) one ∙ w.entry_is in
          rw same (own (λ z. given (same ∙ z)))

-- a premise whose members are those of chain c
module _ (rd : Reader) (size d goal c count : ℕ) (before after : List ℕ) (w : Written (d + 1) (d + 1) goal c count before after) where
  pub members_set : members_at rd after (d + 1) ≡ chain_trees rd c
  unfolding members_at added_from
  members_set =
      let none : d + 1 - (d + 1) ≡ 0 = omega arith in
      rw (w.start_is, w.entry_is, none) (append-nil (chain_trees rd c))

  pub framed_set : d ≤ 8192 → length after ≡ 32776 → c < size → Normal rd size goal → negations_of goal ≤ size + d + 1 → count ≡ length (chain_trees rd c) → count ≤ 2048 →
      Framed rd size after (d + 1)
  framed_set deep l within normal few more low = record {
    long = l;
    deep = omega arith;
    start = rw w.start_is (omega arith);
    chain = rw (w.start_is, w.entry_is) within;
    goal = rw w.goal_is normal;
    few = rw w.goal_is (omega arith);
    added = λ f p q given. let less : d + 1 < f = rw w.start_is at p in absurd (omega arith);
    count = w.count_is ∙ more ∙ sym (ap length members_set);
    low = rw w.count_is low;
  }
