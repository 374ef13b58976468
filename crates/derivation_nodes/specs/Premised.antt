-- What a node that passes its tests hands to premise b, as a frame.
use Prim.Native.Nat.{ℕ, zero, suc, ◌+◌, ◌*◌, ◌-◌, ◌<◌, ◌≤◌}
use Rattle.std.specs.Prelude.{◌≡◌, Bool}
use Rattle.std.proofs.Math.Path.{refl, sym, ap}
use Rattle.std.proofs.Common.{◌∙◌, length-append, arith, eqb-true, leb-true}
use mathlib.Core.List.{List, [], ◌∷◌, ◌++◌, append-nil}
use Rattle.std.proofs.Math.Bool.{true, false}
use Rattle.std.proofs.lemmas.Bool.{false≢true, eqb-false}
use Rattle.std.proofs.Math.Dec.{eqb}
use Rattle.std.proofs.Math.ListN.{get_or, length}
use Rattle.std.proofs.lemmas.List.{length-map}
use Rattle.reader.specs.Words.{Reader}
use Rattle.reader.specs.Tests.{demand, every, if_eq}
use Rattle.reader.specs.TestLaws.{eq_yes, eq_no}
use Rattle.reader.specs.Trees.{Tree, lower}
use Rattle.reader.specs.Chains.{linked, items, parts}
use Rattle.reader.specs.TreeLaws.{lower_below}
use Rattle.reader.specs.ChainLaws.{linked_length, linked_none}
use Rattle.derivation_rules.specs.Erase.{bare_tree, bare_parts}
use Rattle.derivation_rules.specs.Rules.{State, state_at, row, premise}
use Rattle.derivation_rules.specs.Check.{few_members, depth_fits, row_fault, row_of, node_fault, premise_state}
use Rattle.reader.specs.Members.{premises_fit}
use Rattle.derivation_trees.specs.Keys.{negations_of, decoded, Normal}
use Rattle.derivation_frames.specs.Frames.{start_at, goal_at, count_at, added_by, chain_trees, members_at, state_of, Framed, Kept, Written}
use Rattle.derivation_frames.specs.Pushed.{written_kept, members_added, framed_added, members_set, framed_set}
use Rattle.derivation_tables.specs.Tables.{column, grown, form_tree, premises_from, premises_are}
use Rattle.derivation_forms.specs.Forms.{Given, Formed, lower_most}
use Rattle.derivation_members.specs.Needs.{At}

-- what the walk takes from a node's tests
pub record Passed (rd : Reader) (st : State) (n : ℕ) : Type 0 where
  pub nodes : premises_fit 2 rd n (length (row_of rd st n).premises) ≡ true
  pub room : every few_members (row_of rd st n).premises ≡ true
  pub deep : st.depth ≤ 8192

demand_in : (a : Bool) (n rest : ℕ) → demand a (suc n) rest ≡ 0 → (a ≡ true) × (rest ≡ 0)
unfolding demand
demand_in true n rest h = (refl, h)
demand_in false n rest h = absurd (omega arith)

pub passed : (rd : Reader) (st : State) (n why : ℕ) → why ≡ node_fault rd st n → why ≡ 0 → Passed rd st n
unfolding node_fault row_fault depth_fits
passed rd st n why e h =
    let a = demand_in _ 12 _ (sym e ∙ h) in
    let b = demand_in _ 12 _ a.1 in
    let c = demand_in _ 12 _ b.1 in
    let d = demand_in _ 13 _ c.1 in
    let f = demand_in _ 13 _ d.1 in
    let g = demand_in _ 14 _ f.1 in
    let i = demand_in _ 15 _ g.1 in
    let j = demand_in _ 16 _ i.1 in
    let k = demand_in _ 17 _ j.1 in
    record { nodes = c.0; room = j.0; deep = leb-true st.depth 8192 k.0 }

-- premise b is there
unfoldable pub premise_count : Reader → State → ℕ → ℕ
premise_count rd st n = length (row_of rd st n).premises

-- the frames after a premise's is written: only that one changed
pub record Premised (rd : Reader) (size d n b : ℕ) (before after : List ℕ) : Type 0 where
  pub kept : Kept d before after
  pub above : (i : ℕ) → 4 * (d + 1) + 4 ≤ i → get_or after i 0 ≡ get_or before i 0
  pub framed : Framed rd size after (d + 1)
  pub state : state_of rd after (d + 1) ≡ premise_state rd (state_of rd before d) n b

-- one of a list that passes
every_one : {A : Type 0} (test : A → Bool) (xs : List A) (b : ℕ) (x : A) → every test xs ≡ true → b < length xs → test (get_or xs b x) ≡ true
unfolding every
every_one test [] b x h p = absurd (omega arith)
every_one {A} test (y ∷ ys) zero x h p = go (test y) h
  where
    go : (z : Bool) → elim z as (λ w. Bool) [ true ↦ every test ys | false ↦ false ] ≡ true → z ≡ true
    go true q = refl
    go false q = q
every_one test (y ∷ ys) (suc b) x h p = every_one test ys b x (go (test y) h) (omega arith)
  where
    go : (z : Bool) → elim z as (λ w. Bool) [ true ↦ every test ys | false ↦ false ] ≡ true → every test ys ≡ true
    go true q = q
    go false q = absurd (false≢true q)

pub premise_room : (rd : Reader) (st : State) (n b : ℕ) → Passed rd st n → b < premise_count rd st n → length (premise_state rd st n b).members ≤ 2048
unfolding premise_state premise_count few_members
premise_room rd st n b pass p =
    leb-true (length (premise_state rd st n b).members) 2048 (every_one few_members (row_of rd st n).premises b st pass.room p)

-- a premise by its forms
module _ (ps : List Tree) (st : State) where
  first_of : (g e : ℕ) (rest : List State) → 0 < length (premises_from ps st g e rest) →
      premises_from ps st g e rest ≡ premise st (grown st.members ps st.goal e) (form_tree ps st.goal g) ∷ rest
  unfolding premises_from
  first_of g e rest h = by (eqb g 0) refl
    where
      by : (z : Bool) → eqb g 0 ≡ z →
          if_eq g 0 [] (premise st (grown st.members ps st.goal e) (form_tree ps st.goal g) ∷ rest) ≡
          premise st (grown st.members ps st.goal e) (form_tree ps st.goal g) ∷ rest
      by true q =
          let none : premises_from ps st g e rest ≡ [] = sym (eq_yes g 0 _ _ [] (eqb-true g 0 q) refl) in
          let size : length (premises_from ps st g e rest) ≡ 0 = ap length none in
          absurd (omega arith)
      by false q = sym (eq_no g 0 _ _ (premise st (grown st.members ps st.goal e) (form_tree ps st.goal g) ∷ rest) (eqb-false g 0 q) refl)

  most_of : (g e : ℕ) (rest : List State) → length (premises_from ps st g e rest) ≤ suc (length rest)
  unfolding premises_from
  most_of g e rest = by (eqb g 0) refl
    where
      by : (z : Bool) → eqb g 0 ≡ z → length (premises_from ps st g e rest) ≤ suc (length rest)
      by true q =
          let none : premises_from ps st g e rest ≡ [] = sym (eq_yes g 0 _ _ [] (eqb-true g 0 q) refl) in
          rw none (omega arith)
      by false q =
          let some : premises_from ps st g e rest ≡ premise st (grown st.members ps st.goal e) (form_tree ps st.goal g) ∷ rest =
          sym (eq_no g 0 _ _ (premise st (grown st.members ps st.goal e) (form_tree ps st.goal g) ∷ rest) (eqb-false g 0 q) refl) in
          rw some (omega arith)

  two_most : (k : ℕ) → (k ≡ 65 → ⊥) → length (row k ps st).premises ≤ 2
  two_most k other =
      let last : length (premises_from ps st (column k 6) (column k 7) []) ≤ 1 = most_of (column k 6) (column k 7) [] in
      let all : length (premises_from ps st (column k 4) (column k 5) (premises_from ps st (column k 6) (column k 7) [])) ≤
      suc (length (premises_from ps st (column k 6) (column k 7) [])) =
      most_of (column k 4) (column k 5) (premises_from ps st (column k 6) (column k 7) []) in
      rw (premises_are ps st k other) (omega arith)

  by_forms : (k b : ℕ) → (k ≡ 65 → ⊥) → b < length (row k ps st).premises →
      get_or (row k ps st).premises b st ≡ premise st (grown st.members ps st.goal (column k (5 + 2 * b))) (form_tree ps st.goal (column k (4 + 2 * b)))
  by_forms k zero other h =
      let rest = premises_from ps st (column k 6) (column k 7) [] in
      let own : 0 < length (premises_from ps st (column k 4) (column k 5) rest) = rw (← premises_are ps st k other) h in
      rw (premises_are ps st k other, first_of (column k 4) (column k 5) rest own) refl
  by_forms k (suc zero) other h =
      let rest = premises_from ps st (column k 6) (column k 7) [] in
      let own : 1 < length (premises_from ps st (column k 4) (column k 5) rest) = rw (← premises_are ps st k other) h in
      let first = first_of (column k 4) (column k 5) rest (omega arith) in
      let size : length (premises_from ps st (column k 4) (column k 5) rest) ≡ suc (length (premises_from ps st (column k 6) (column k 7) [])) = ap length first in
      let second : 0 < length (premises_from ps st (column k 6) (column k 7) []) = omega arith in
      rw (premises_are ps st k other, first, first_of (column k 6) (column k 7) [] second) refl
  by_forms k (suc (suc b)) other h = absurd (omega (arith, two_most k other))

-- the number of premises of a rule but BR2 is at most two
pub premise_low : (rd : Reader) (st : State) (n k b : ℕ) → k ≡ rd n 0 → (k ≡ 65 → ⊥) → b < premise_count rd st n → b < 2
unfolding premise_count row_of
premise_low rd st n k b ek other h = omega (arith, two_most (bare_parts rd n) st (rd n 0) (λ z. other (ek ∙ z)))

premise_is : (rd : Reader) (st : State) (n k b : ℕ) → k ≡ rd n 0 → (k ≡ 65 → ⊥) → b < premise_count rd st n →
    premise_state rd st n b ≡ premise st (grown st.members (bare_parts rd n) st.goal (column k (5 + 2 * b))) (form_tree (bare_parts rd n) st.goal (column k (4 + 2 * b)))
unfolding premise_count row_of premise_state
premise_is rd st n k b ek other h = rw ek (by_forms (bare_parts rd n) st (rd n 0) b (λ z. other (ek ∙ z)) h)

premise_65 : (ps : List Tree) (st : State) (b : ℕ) → b < length (row 65 ps st).premises → get_or (row 65 ps st).premises b st ≡ premise st ps st.goal
unfolding row if_eq
premise_65 ps st zero h = refl
premise_65 ps st (suc b) h = absurd (omega arith)

-- a sequent from its parts
sequent_is : (Γ Δ : List Tree) (P Q : Tree) (d e : ℕ) → Γ ≡ Δ → P ≡ Q → d ≡ e → state_at Γ P d ≡ state_at Δ Q e
sequent_is Γ Δ P Q d e p q r = rw (p, q, r) refl

parts_chain : (rd : Reader) (n c : ℕ) → c ≡ lower rd n 1 → bare_parts rd n ≡ chain_trees rd c
unfolding bare_parts parts chain_trees
parts_chain rd n c e = rw (← e) refl

-- as many items as links
pub chain_length : (rd : Reader) (c : ℕ) → length (chain_trees rd c) ≡ length (linked rd c)
unfolding chain_trees items
chain_length rd c = length-map (items rd c) (bare_tree rd) ∙ length-map (linked rd c) (λ l. lower rd l 1)

-- BR2: the parts are the members
module _ (rd : Reader) (keys : List ℕ) (d n b k goal c count : ℕ) (before after : List ℕ) (here : At rd keys before d n)
    (pass : Passed rd (state_of rd before d) n) (low : b < premise_count rd (state_of rd before d) n) (ek : k ≡ rd n 0) (set : k ≡ 65)
    (eg : goal ≡ goal_at before d) (ec : c ≡ lower rd n 1) (el : count ≡ length (linked rd c)) (l : length after ≡ length before)
    (w : Written (d + 1) (d + 1) goal c count before after) where
  set_state : premise_state rd (state_of rd before d) n b ≡ premise (state_of rd before d) (bare_parts rd n) (state_of rd before d).goal
  unfolding premise_state row_of premise_count
  set_state =
      let sixty_five : rd n 0 ≡ 65 = sym ek ∙ set in
      go (rd n 0) sixty_five low
    where
      go : (j : ℕ) → j ≡ 65 → b < length (row j (bare_parts rd n) (state_of rd before d)).premises →
          get_or (row j (bare_parts rd n) (state_of rd before d)).premises b (state_of rd before d) ≡ premise (state_of rd before d) (bare_parts rd n) (state_of rd before d).goal
      go j e h = rw e (premise_65 (bare_parts rd n) (state_of rd before d) b (rw (← e) h))

  pub premised_set : Premised rd (length keys) d n b before after
  unfolding state_of
  premised_set = record {
    kept = written_kept d (d + 1) goal c count before after w;
    above = w.above;
    framed = framed_set rd (length keys) d goal c count before after w pass.deep (l ∙ here.framed.long) below normal few
        (el ∙ sym (chain_length rd c)) (omega (arith, small));
    state = sequent_is _ _ _ _ _ _ (members_set rd (length keys) d goal c count before after w ∙ sym (parts_chain rd n c ec))
        (ap (decoded rd) (w.goal_is ∙ eg)) refl ∙ sym set_state;
  }
    where
      below : c < length keys
      below = omega (arith, lower_most rd n 1, here.within)

      normal : Normal rd (length keys) goal
      normal = rw eg here.framed.goal

      few : negations_of goal ≤ length keys + d + 1
      few = rw eg (omega (arith, here.framed.few))

      size : length (premise_state rd (state_of rd before d) n b).members ≡ length (bare_parts rd n)
      size = ap (λ (s : State). length s.members) set_state

      small : count ≤ 2048
      small =
          let own : length (bare_parts rd n) ≡ count = ap length (parts_chain rd n c ec) ∙ chain_length rd c ∙ sym el in
          let room : length (premise_state rd (state_of rd before d) n b).members ≤ 2048 = premise_room rd (state_of rd before d) n b pass low in
          omega (arith, size)

-- what a key and one adds, and what 0 does
added_key : (rd : Reader) (x : ℕ) → added_by rd (x + 1) ≡ decoded rd x ∷ []
unfolding added_by
added_key rd x =
    let same : x + 1 - 1 ≡ x = omega arith in
    sym (eq_no (x + 1) 0 _ _ (decoded rd x ∷ []) (λ z. omega arith) (rw same refl))

added_nothing : (rd : Reader) → added_by rd 0 ≡ []
unfolding added_by if_eq
added_nothing rd = refl

grown_none : (Γ ps : List Tree) (goal : Tree) (e : ℕ) → e ≡ 0 → grown Γ ps goal e ≡ Γ
unfolding grown
grown_none Γ ps goal e h = sym (eq_yes e 0 _ _ Γ h refl)

grown_one : (Γ ps : List Tree) (goal : Tree) (e : ℕ) → (e ≡ 0 → ⊥) → grown Γ ps goal e ≡ Γ ++ (form_tree ps goal e ∷ [])
unfolding grown
grown_one Γ ps goal e h = sym (eq_no e 0 _ _ (Γ ++ (form_tree ps goal e ∷ [])) h refl)

-- the other rules keep the members, and add one or none
module _ (rd : Reader) (keys : List ℕ) (d n b k goal g key : ℕ) (before : List ℕ) (here : At rd keys before d n)
    (pass : Passed rd (state_of rd before d) n) (low : b < premise_count rd (state_of rd before d) n) (ek : k ≡ rd n 0) (other : k ≡ 65 → ⊥)
    (eg : goal ≡ goal_at before d) (ef : g ≡ column k (4 + 2 * b))
    (formed : Formed rd (length keys) goal 1 key (form_tree (bare_parts rd n) (decoded rd goal) g)) where
  abbrev st : State
  st = state_of rd before d

  few : negations_of key ≤ length keys + d + 1
  few = formed.few (length keys + d) (omega arith) (rw eg here.framed.few)

  goal_means : decoded rd key ≡ form_tree (bare_parts rd n) st.goal (column k (4 + 2 * b))
  unfolding state_of
  goal_means = formed.stands.means ∙ rw (← eg, ← ef) refl

  -- with these members
  module _ (Γ : List Tree) (e : ℕ) (ee : e ≡ column k (5 + 2 * b)) (more : grown st.members (bare_parts rd n) st.goal e ≡ Γ) where
    others_state : premise_state rd st n b ≡ premise st Γ (form_tree (bare_parts rd n) st.goal (column k (4 + 2 * b)))
    others_state = premise_is rd st n k b ek other low ∙ rw (← ee, more) refl

    others_room : length Γ ≤ 2048
    others_room =
        let room : length (premise_state rd st n b).members ≤ 2048 = premise_room rd st n b pass low in
        let size : length (premise_state rd st n b).members ≡ length Γ = ap (λ (s : State). length s.members) others_state in
        omega (arith, room, size)

  members_here : st.members ≡ members_at rd before d
  unfolding state_of
  members_here = refl

  module _ (after : List ℕ) (l : length after ≡ length before) (s h e : ℕ) (es : s ≡ start_at before d) (eh : h ≡ count_at before d) (ee : e ≡ column k (5 + 2 * b)) where
    pub premised_none : e ≡ 0 → Written (d + 1) s key 0 h before after → Premised rd (length keys) d n b before after
    unfolding state_of
    premised_none none w0 = record {
      kept = written_kept d (start_at before d) key 0 h before after w;
      above = w.above;
      framed = framed_added rd (length keys) d key 0 h before after here.framed w pass.deep l formed.stands.normal few (λ z. absurd (z refl))
          (eh ∙ same) (omega (arith, eh, here.framed.low));
      state = sequent_is _ _ _ _ _ _
          (members_added rd (length keys) d key 0 h before after here.framed w ∙ ap (λ (ts : List Tree). members_at rd before d ++ ts) (added_nothing rd) ∙ append-nil (members_at rd before d))
          (ap (decoded rd) w.goal_is ∙ goal_means) refl ∙ sym (others_state (members_at rd before d) e ee kept_all);
    }
      where
        w : Written (d + 1) (start_at before d) key 0 h before after
        w = rw (← es) w0

        same : count_at before d ≡ count_at before d + length (added_by rd 0)
        same = let zero_more : length (added_by rd 0) ≡ 0 = ap length (added_nothing rd) in omega arith

        kept_all : grown st.members (bare_parts rd n) st.goal e ≡ members_at rd before d
        kept_all = grown_none (members_at rd before d) (bare_parts rd n) (decoded rd (goal_at before d)) e none

    pub premised_one : (e ≡ 0 → ⊥) → (x : ℕ) → Formed rd (length keys) goal 1 x (form_tree (bare_parts rd n) (decoded rd goal) e) →
        Written (d + 1) s key (x + 1) (h + 1) before after → Premised rd (length keys) d n b before after
    unfolding state_of
    premised_one some x own w0 = record {
      kept = written_kept d (start_at before d) key (x + 1) (h + 1) before after w;
      above = w.above;
      framed = framed_added rd (length keys) d key (x + 1) (h + 1) before after here.framed w pass.deep l formed.stands.normal few
          (λ z. rw same own.stands.normal) (rw eh one_more) (omega (arith, room));
      state = sequent_is _ _ _ _ _ _
          (members_added rd (length keys) d key (x + 1) (h + 1) before after here.framed w ∙ added)
          (ap (decoded rd) w.goal_is ∙ goal_means) refl ∙ sym (others_state _ e ee more);
    }
      where
        w : Written (d + 1) (start_at before d) key (x + 1) (h + 1) before after
        w = rw (← es) w0

        same : x + 1 - 1 ≡ x
        same = omega arith

        means : decoded rd x ≡ form_tree (bare_parts rd n) (decoded rd (goal_at before d)) e
        means = own.stands.means ∙ rw (← eg) refl

        added : members_at rd before d ++ added_by rd (x + 1) ≡ members_at rd before d ++ (form_tree (bare_parts rd n) (decoded rd (goal_at before d)) e ∷ [])
        added = ap (λ (ts : List Tree). members_at rd before d ++ ts) (added_key rd x) ∙ ap (λ (t : Tree). members_at rd before d ++ (t ∷ [])) means

        more : grown st.members (bare_parts rd n) st.goal e ≡ members_at rd before d ++ (form_tree (bare_parts rd n) (decoded rd (goal_at before d)) e ∷ [])
        more = grown_one (members_at rd before d) (bare_parts rd n) (decoded rd (goal_at before d)) e some

        one_more : count_at before d + 1 ≡ count_at before d + length (added_by rd (x + 1))
        one_more = ap (λ (i : ℕ). count_at before d + i) (sym (ap length (added_key rd x)))

        room : h + 1 ≤ 2048
        room =
            let all : length (members_at rd before d ++ (form_tree (bare_parts rd n) (decoded rd (goal_at before d)) e ∷ [])) ≤ 2048 =
            others_room (members_at rd before d ++ (form_tree (bare_parts rd n) (decoded rd (goal_at before d)) e ∷ [])) e ee more in
            let size : length (members_at rd before d ++ (form_tree (bare_parts rd n) (decoded rd (goal_at before d)) e ∷ [])) ≡ length (members_at rd before d) + 1 =
            length-append (members_at rd before d) (form_tree (bare_parts rd n) (decoded rd (goal_at before d)) e ∷ []) in
            let count : count_at before d ≡ length (members_at rd before d) = here.framed.count in
            omega (arith, all, size, count, eh)

-- The loop of `chain_length`.
module _ (rd : Reader) (c l count : ℕ) (inv : count + length (linked rd l) ≡ length (linked rd c)) where
  pub length_turn : (l ≡ 0 → ⊥) → (next : ℕ) → next ≡ lower rd l 3 → count + 1 + length (linked rd next) ≡ length (linked rd c)
  length_turn h next e = rw e (omega (arith, inv, linked_length rd l h))

  pub length_end : l ≡ 0 → count ≡ length (linked rd c)
  length_end h = let none : length (linked rd l) ≡ 0 = rw h (linked_none rd) in omega (arith, inv)

pub length_low : (rd : Reader) (c l count next : ℕ) → (l ≡ 0 → ⊥) → next ≡ lower rd l 3 → count + l ≤ c → count + 1 + next ≤ c
length_low rd c l count next h e p = omega (arith, lower_below rd l 3 (omega arith))

-- a key and one does not wrap
pub key_small : (rd : Reader) (keys : List ℕ) (goal n x : ℕ) (t : Tree) → Given rd keys goal n → Formed rd (length keys) goal 1 x t → x < 68719476736
unfolding negations_of
key_small rd keys goal n x t given formed =
    let few : negations_of x ≤ 262142 + 1 = formed.few 262142 (omega (arith, given.small)) given.few in
    omega arith

-- the next frame has room
pub next_in : (rd : Reader) (keys frames : List ℕ) (d n : ℕ) → At rd keys frames d n → Passed rd (state_of rd frames d) n → 4 * (d + 1) + 3 < length frames
unfolding state_of
next_in rd keys frames d n here pass = let deep : d ≤ 8192 = pass.deep in omega (arith, here.framed.long)
