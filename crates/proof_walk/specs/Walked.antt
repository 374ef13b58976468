-- The walk over a proof's nodes, and the ways out of the code that makes it.
use Rattle.std.specs.Prelude.{ℕ, zero, suc, ◌+◌, ◌*◌, ◌<◌, ◌≤◌, ◌≡◌, refl, List, [], ◌∷◌, true, leb, take, get_or, Err}
use Rattle.std.proofs.Math.Path.{sym, ap}
use Rattle.std.proofs.Common.{◌∙◌, take-take, leb-true}
use Rattle.std.proofs.Math.ListN.{length}
use native.Mathlib.Omega.{arith}
use Rattle.reader.specs.declared.Answer.{Answer}
use Rattle.reader.specs.declared.Refusal.{Refusal}
use Rattle.reader.specs.Refusals.{answer_of}
use Rattle.reader.specs.RefusalLaws.{number_some}
use Rattle.reader.specs.Words.{Reader}
use Rattle.reader.specs.Tests.{every}
use Rattle.reader.specs.Kinds.{is_rule}
use Rattle.reader.specs.Trees.{Tree, lower}
use Rattle.reader.specs.Chains.{items, premises}
use Rattle.reader.specs.TreeLaws.{lower_below, items_step}
use Rattle.reader.specs.Answers.{answer, accepted}
use Rattle.reader.specs.Walk.{walk_node, walk_links}
use Rattle.reader.specs.WalkLaws.{node_zero, node_go, node_stop, link_zero, link_go, link_stop}
use Rattle.reader_laws.specs.Scan.{both_parts, demand_parts, every_head}
use Rattle.reader_laws.specs.Under.{under, under_links, under_step_lem, under_links_lem}
use Rattle.reader_laws.specs.Agree.{lower_most}
use Rattle.reader_laws.specs.Entered.{node_count}
use Rattle.proof_rules.specs.Check.{row_of, has_room, row_fault, node_fault, premise_sequent}
use Rattle.reader.specs.Members.{premises_fit}
use Rattle.reader_equality.specs.Tables.{Zeros}
use Rattle.proof_members.specs.Sequents.{sequent, sequent_length, in_memory}
use Rattle.proof_members.specs.Added.{sequent_kept, ready_kept}
use Rattle.proof_rows.specs.Grown.{Grown}
use Rattle.proof_nodes.specs.Nodes.{At}

-- the walk from a node, and along a chain of premises
unfoldable pub visit : Reader → ℕ → List Tree → ℕ → Answer
visit rd n s count = walk_node rd (node_fault rd) (premise_sequent rd) n s count

unfoldable pub follow : Reader → ℕ → ℕ → ℕ → List Tree → ℕ → Answer
follow rd c n b s count = walk_links rd (node_fault rd) (premise_sequent rd) c n b s count

-- the items of a chain are rule nodes
unfoldable pub AreNodes : Reader → ℕ → Type 0
AreNodes rd c = every (λ x. is_rule 1 (rd x 0)) (items rd c) ≡ true

-- The ways out of `walk_node`.
module _ (rd : Reader) (n : ℕ) (s : List Tree) (count : ℕ) where
  pub visit_none : n ≡ 0 → answer 13 2 0 count ≡ visit rd n s count
  unfolding visit
  visit_none h = rw h (sym (node_zero rd (node_fault rd) (premise_sequent rd) s count))

  module _ (pos : n ≡ 0 → ⊥) where
    pub visit_stop : (why : ℕ) → why ≡ node_fault rd s n → (why ≡ 0 → ⊥) → answer why 2 n (count + 1) ≡ visit rd n s count
    unfolding visit
    visit_stop why ew h =
        rw ew (sym (node_stop rd (node_fault rd) (premise_sequent rd) n s count (omega arith) (λ z. h (ew ∙ z))))

    pub visit_go : 0 ≡ node_fault rd s n → (c : ℕ) (r : Answer) → c ≡ lower rd n 2 → r ≡ follow rd c n 0 s (count + 1) → r ≡ visit rd n s count
    unfolding visit follow
    visit_go h c r ec e =
        e ∙ ap (λ (x : ℕ). walk_links rd (node_fault rd) (premise_sequent rd) x n 0 s (count + 1)) ec
        ∙ sym (node_go rd (node_fault rd) (premise_sequent rd) n s count (omega arith) (sym h))

-- The ways out of `walk_links`.
module _ (rd : Reader) (c n b : ℕ) (s : List Tree) (count : ℕ) where
  pub follow_none : c ≡ 0 → accepted count ≡ follow rd c n b s count
  unfolding follow
  follow_none h = rw h (sym (link_zero rd (node_fault rd) (premise_sequent rd) n b s count))

  module _ (pos : c ≡ 0 → ⊥) (x : ℕ) (ex : x ≡ lower rd c 1) where
    first_is : (a : Answer) → a ≡ visit rd x (premise_sequent rd s n b) count →
        a ≡ walk_node rd (node_fault rd) (premise_sequent rd) (lower rd c 1) (premise_sequent rd s n b) count
    unfolding visit
    first_is a e = e ∙ ap (λ (y : ℕ). walk_node rd (node_fault rd) (premise_sequent rd) y (premise_sequent rd s n b) count) ex

    pub follow_stopped : (a : Answer) → a ≡ visit rd x (premise_sequent rd s n b) count → (a.refusal ≡ 0 → ⊥) → a ≡ follow rd c n b s count
    unfolding follow
    follow_stopped a e h =
        let first = first_is a e in
        first ∙ sym (link_stop rd (node_fault rd) (premise_sequent rd) n b s count c (omega arith) (λ z. h (ap (λ (y : Answer). y.refusal) first ∙ z)))

    pub follow_stop : (f : Refusal) → answer_of (Err f) ≡ visit rd x (premise_sequent rd s n b) count → answer_of (Err f) ≡ follow rd c n b s count
    follow_stop f e = follow_stopped (answer_of (Err f)) e (number_some f.fault)

    pub follow_passed : (a : Answer) → a ≡ visit rd x (premise_sequent rd s n b) count → a.refusal ≡ 0 → (rest : ℕ) (r : Answer) → rest ≡ lower rd c 3 →
        r ≡ follow rd rest n (b + 1) s a.nodes → r ≡ follow rd c n b s count
    unfolding follow
    follow_passed a ea h rest r er e =
        let first = first_is a ea in
        e ∙ ap (λ (y : ℕ). walk_links rd (node_fault rd) (premise_sequent rd) y n (b + 1) s a.nodes) er
        ∙ ap (λ (y : Answer). walk_links rd (node_fault rd) (premise_sequent rd) (lower rd c 3) n (b + 1) s y.nodes) first
        ∙ sym (link_go rd (node_fault rd) (premise_sequent rd) n b s count c (omega arith) (ap (λ (y : Answer). y.refusal) (sym first) ∙ h))

    pub follow_go : (entered : ℕ) → accepted entered ≡ visit rd x (premise_sequent rd s n b) count → (rest : ℕ) (r : Answer) → rest ≡ lower rd c 3 →
        r ≡ follow rd rest n (b + 1) s entered → r ≡ follow rd c n b s count
    follow_go entered ea rest r er e = follow_passed (accepted entered) ea refl rest r er e

-- what a node gives that passes its tests: its premises are rule nodes, and each has room
record Passed (rd : Reader) (s : List Tree) (n : ℕ) : Type 0 where
  fits : premises_fit 1 rd n (length (row_of rd n).adds) ≡ true
  room : has_room s (row_of rd n).adds ≡ true

passed : (rd : Reader) (s : List Tree) (n : ℕ) → node_fault rd s n ≡ 0 → Passed rd s n
unfolding node_fault row_fault
passed rd s n h =
    let a = demand_parts _ 13 _ h refl in
    let b = demand_parts _ 13 _ a.1 refl in
    let c = demand_parts _ 14 _ b.1 refl in
    let d = demand_parts _ 15 _ c.1 refl in
    let e = demand_parts _ 16 _ d.1 refl in
    let f = demand_parts _ 17 _ e.1 refl in
    record { fits = b.0; room = f.0 }

rules : (rd : Reader) (s : List Tree) (n : ℕ) → node_fault rd s n ≡ 0 → every (λ x. is_rule 1 (rd x 0)) (premises rd n) ≡ true
unfolding premises_fit
rules rd s n h = (both_parts _ _ (passed rd s n h).fits).1

pub premises_nodes : (rd : Reader) (s : List Tree) (n c : ℕ) → 0 ≡ node_fault rd s n → c ≡ lower rd n 2 → AreNodes rd c
unfolding AreNodes premises
premises_nodes rd s n c h ec = rw ec (rules rd s n (sym h))

-- a test of every element, at one place or past the end
every_place : (s : List Tree) (l : List (List Tree)) (b : ℕ) → length s ≤ 1024 → every (λ added. leb (length s + length added) 1024) l ≡ true →
    length s + length (get_or l b []) ≤ 1024
unfolding every
every_place s [] b small h = omega arith
every_place s (x ∷ xs) zero small h = leb-true (length s + length x) 1024 (every_head (λ added. leb (length s + length added) 1024) x xs h).0
every_place s (x ∷ xs) (suc b) small h = every_place s xs b small (every_head (λ added. leb (length s + length added) 1024) x xs h).1

-- The conditions of calls.
module _ (rd : Reader) (numbers memory scratch : List ℕ) (h x : ℕ) (here : At rd numbers memory scratch h x) where
  -- a premise's members have room
  pub premise_room : (n b : ℕ) → node_fault rd (sequent rd memory h) n ≡ 0 → h + length (get_or (row_of rd n).adds b []) ≤ 1024
  unfolding has_room
  premise_room n b e =
      let size : length (sequent rd memory h) ≡ h = sequent_length rd memory h (in_memory rd numbers memory h here.ready) in
      let low : h ≤ 1024 = here.ready.low in
      let room = every_place (sequent rd memory h) (row_of rd n).adds b (omega arith) (passed rd (sequent rd memory h) n e).room in
      omega arith

  -- at a premise's sequent
  pub premise_at : (n b i : ℕ) (after : List ℕ) → Grown rd numbers memory h (get_or (row_of rd n).adds b []) after i → At rd numbers after scratch i x
  premise_at n b i after g = record { ready = g.ready; within = here.within; marks = here.marks; blank = here.blank }

  -- another record, where the memory was kept
  pub at_other : (y : ℕ) → y ≤ x → At rd numbers memory scratch h y
  at_other y p = record { ready = here.ready; within = omega (arith, here.within); marks = here.marks; blank = here.blank }

  pub at_kept : (after marked : List ℕ) → length after ≡ length memory → length marked ≡ length scratch → Zeros marked → take h after ≡ take h memory →
      At rd numbers after marked h x
  at_kept after marked l k z e = record {
    ready = ready_kept rd numbers memory after h l e here.ready;
    within = here.within;
    marks = omega (arith, here.marks);
    blank = z;
  }

-- The way out of `walk_premise`.
pub premise_walked : (rd : Reader) (numbers memory after : List ℕ) (h n b i x count : ℕ) (r : Answer) →
    Grown rd numbers memory h (get_or (row_of rd n).adds b []) after i → r ≡ visit rd x (sequent rd after i) count →
    r ≡ visit rd x (premise_sequent rd (sequent rd memory h) n b) count
unfolding premise_sequent
premise_walked rd numbers memory after h n b i x count r g e = rw (← g.more) e

pub premise_kept : (rd : Reader) (numbers memory after final : List ℕ) (h n b i : ℕ) → Grown rd numbers memory h (get_or (row_of rd n).adds b []) after i →
    take i final ≡ take i after → take h final ≡ take h memory
premise_kept rd numbers memory after final h n b i g e =
    let le : h ≤ i = omega (arith, g.count) in
    sym (take-take h i final le) ∙ ap (λ (l : List ℕ). take h l) e ∙ take-take h i after le ∙ g.kept

-- a link's item is a rule node, and so are those after it
module _ (rd : Reader) (c : ℕ) (pos : c ≡ 0 → ⊥) (all : AreNodes rd c) where
  both_nodes : (is_rule 1 (rd (lower rd c 1) 0) ≡ true) × AreNodes rd (lower rd c 3)
  unfolding AreNodes
  both_nodes = every_head (λ x. is_rule 1 (rd x 0)) (lower rd c 1) (items rd (lower rd c 3)) (rw (items_step rd c (omega arith)) at all)

  pub item_node : (x : ℕ) → x ≡ lower rd c 1 → is_rule 1 (rd x 0) ≡ true
  item_node x e = rw e both_nodes.0

  pub rest_nodes : (y : ℕ) → y ≡ lower rd c 3 → AreNodes rd y
  rest_nodes y e = rw e both_nodes.1

  -- the count at the item, and after it
  module _ (count x y : ℕ) (ex : x ≡ lower rd c 1) (ey : y ≡ lower rd c 3) (few : count + under_links 1 rd c ≤ 4294967296) where
    split : under_links 1 rd c ≡ under 1 rd x + under_links 1 rd y
    split = rw (ex, ey) (under_links_lem 1 rd c (omega arith) both_nodes.0)

    pub item_count : count + under 1 rd x ≤ 4294967296
    item_count = omega (arith, split)

    pub rest_counted : (t : List Tree) (a : Answer) → a ≡ visit rd x t count → a.nodes + under_links 1 rd y ≤ 4294967296
    unfolding visit
    rest_counted t a ea =
        let most = node_count 1 rd (node_fault rd) (premise_sequent rd) (rules rd) x t count (item_node x ex) in
        let same : a.nodes ≡ (walk_node rd (node_fault rd) (premise_sequent rd) x t count).nodes = ap (λ (z : Answer). z.nodes) ea in
        omega (arith, split)

    pub rest_count : (t : List Tree) (entered : ℕ) → accepted entered ≡ visit rd x t count → entered + under_links 1 rd y ≤ 4294967296
    rest_count t entered ea = rest_counted t (accepted entered) ea

-- the count at the chain of premises
pub links_count : (rd : Reader) (n c count : ℕ) → (n ≡ 0 → ⊥) → c ≡ lower rd n 2 → count + under 1 rd n ≤ 4294967296 → count + 1 + under_links 1 rd c ≤ 4294967296
links_count rd n c count pos e few =
    let step : under 1 rd n ≡ 1 + under_links 1 rd c = rw e (under_step_lem 1 rd n (omega arith)) in
    omega arith

-- The record number falls: three times it, and which of the three functions is called.
pub links_fall : (rd : Reader) (n c t : ℕ) → 3 * n ≡ t → (n ≡ 0 → ⊥) → c ≡ lower rd n 2 → 3 * c + 2 < t
links_fall rd n c t e pos ec = omega (arith, lower_below rd n 2 (omega arith))

pub premise_falls : (rd : Reader) (c x t : ℕ) → 3 * c + 2 ≡ t → (c ≡ 0 → ⊥) → x ≡ lower rd c 1 → 3 * x + 1 < t
premise_falls rd c x t e pos ex = omega (arith, lower_below rd c 1 (omega arith))

pub rest_falls : (rd : Reader) (c y t : ℕ) → 3 * c + 2 ≡ t → (c ≡ 0 → ⊥) → y ≡ lower rd c 3 → 3 * y + 2 < t
rest_falls rd c y t e pos ey = omega (arith, lower_below rd c 3 (omega arith))

-- at a record that another refers to, where the memory and the marks were kept
module _ (rd : Reader) (numbers memory scratch : List ℕ) (h i : ℕ) (here : At rd numbers memory scratch h i) where
  pub at_lower : (x w : ℕ) → x ≡ lower rd i w → At rd numbers memory scratch h x
  at_lower x w e = at_other rd numbers memory scratch h i here x (omega (arith, lower_most rd i w))

  pub at_marked : (marked : List ℕ) (x w : ℕ) → length marked ≡ length scratch → Zeros marked → x ≡ lower rd i w → At rd numbers memory marked h x
  at_marked marked x w k z e =
      at_other rd numbers memory marked h i (at_kept rd numbers memory scratch h i here memory marked refl k z refl) x (omega (arith, lower_most rd i w))

  pub at_rest : (after marked : List ℕ) (x w : ℕ) → length after ≡ length memory → length marked ≡ length scratch → Zeros marked → take h after ≡ take h memory →
      x ≡ lower rd i w → At rd numbers after marked h x
  at_rest after marked x w l k z kept e =
      at_other rd numbers after marked h i (at_kept rd numbers memory scratch h i here after marked l k z kept) x (omega (arith, lower_most rd i w))

  at_few : i ≤ 4096
  at_few = omega (arith, here.within, here.ready.table.small)

pub fault_kept : (rd : Reader) (memory after : List ℕ) (h n : ℕ) → take h after ≡ take h memory → node_fault rd (sequent rd memory h) n ≡ 0 →
    node_fault rd (sequent rd after h) n ≡ 0
fault_kept rd memory after h n kept e = rw (sequent_kept rd memory after h kept) e

-- the walk goes on after a premise
pub links_passed : (rd : Reader) (memory after : List ℕ) (h c n b count x rest : ℕ) (a r : Answer) → (c ≡ 0 → ⊥) → x ≡ lower rd c 1 → rest ≡ lower rd c 3 →
    a ≡ visit rd x (premise_sequent rd (sequent rd memory h) n b) count → take h after ≡ take h memory → a.refusal ≡ 0 →
    r ≡ follow rd rest n (b + 1) (sequent rd after h) a.nodes → r ≡ follow rd c n b (sequent rd memory h) count
links_passed rd memory after h c n b count x rest a r pos ex er ea kept z e =
    follow_passed rd c n b (sequent rd memory h) count pos x ex a ea z rest r er
    (e ∙ ap (λ (s : List Tree). follow rd rest n (b + 1) s a.nodes) (sequent_kept rd memory after h kept))

pub links_go : (rd : Reader) (memory after : List ℕ) (h c n b count x rest entered : ℕ) (r : Answer) → (c ≡ 0 → ⊥) → x ≡ lower rd c 1 → rest ≡ lower rd c 3 →
    accepted entered ≡ visit rd x (premise_sequent rd (sequent rd memory h) n b) count → take h after ≡ take h memory →
    r ≡ follow rd rest n (b + 1) (sequent rd after h) entered → r ≡ follow rd c n b (sequent rd memory h) count
links_go rd memory after h c n b count x rest entered r pos ex er ea kept e =
    links_passed rd memory after h c n b count x rest (accepted entered) r pos ex er ea kept refl e

-- the walk ends with a node that has no premises, and with a last premise
pub visit_last : (rd : Reader) (n : ℕ) (s : List Tree) (count c : ℕ) → (n ≡ 0 → ⊥) → 0 ≡ node_fault rd s n → c ≡ lower rd n 2 → c ≡ 0 →
    accepted (count + 1) ≡ visit rd n s count
visit_last rd n s count c pos h ec none =
    visit_go rd n s count pos h c (accepted (count + 1)) ec (follow_none rd c n 0 s (count + 1) none)

pub links_ended : (rd : Reader) (c n b : ℕ) (s : List Tree) (count x rest : ℕ) (a : Answer) → (c ≡ 0 → ⊥) → x ≡ lower rd c 1 → rest ≡ lower rd c 3 →
    a ≡ visit rd x (premise_sequent rd s n b) count → a.refusal ≡ 0 → rest ≡ 0 → accepted a.nodes ≡ follow rd c n b s count
links_ended rd c n b s count x rest a pos ex er ea z none =
    follow_passed rd c n b s count pos x ex a ea z rest (accepted a.nodes) er (follow_none rd rest n (b + 1) s a.nodes none)

pub links_last : (rd : Reader) (c n b : ℕ) (s : List Tree) (count x rest entered : ℕ) → (c ≡ 0 → ⊥) → x ≡ lower rd c 1 → rest ≡ lower rd c 3 →
    accepted entered ≡ visit rd x (premise_sequent rd s n b) count → rest ≡ 0 → accepted entered ≡ follow rd c n b s count
links_last rd c n b s count x rest entered pos ex er ea none = links_ended rd c n b s count x rest (accepted entered) pos ex er ea refl none

-- the numbers of premises and links stay small
pub turn_few : (rd : Reader) (b c y : ℕ) → b + c ≤ 4294967296 → (c ≡ 0 → ⊥) → y ≡ lower rd c 3 → b + 1 + y ≤ 4294967296
turn_few rd b c y few pos e = omega (arith, lower_below rd c 3 (omega arith))

pub links_few : (rd : Reader) (numbers memory scratch : List ℕ) (h n c : ℕ) → At rd numbers memory scratch h n → c ≡ lower rd n 2 → 0 + c ≤ 4294967296
links_few rd numbers memory scratch h n c here e = omega (arith, lower_most rd n 2, at_few rd numbers memory scratch h n here)
