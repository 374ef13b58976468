-- The premises of a node, walked one after the other: what holds before each turn of the loop, and what the calls in it ask.
use Rattle.std.specs.Prelude.{ℕ, zero, suc, ◌+◌, ◌*◌, ◌<◌, ◌≤◌, ◌≡◌, List, true, false, length}
use Rattle.std.proofs.Math.Path.{refl, ap}
use Rattle.std.proofs.Common.{sym, ◌∙◌}
use Rattle.std.proofs.lemmas.Bool.{false≢true}
use native.Mathlib.Omega.{arith}
use borrow.Author.Tests.{eqb-true}
use Rattle.reader.specs.declared.Answer.{Answer}
use Rattle.reader.specs.Words.{Reader}
use Rattle.reader.specs.Tests.{every}
use Rattle.reader.specs.Kinds.{is_rule}
use Rattle.reader.specs.Trees.{lower}
use Rattle.reader.specs.Chains.{items, premises}
use Rattle.reader.specs.TreeLaws.{lower_below, items_step}
use Rattle.reader.specs.Answers.{answer, accepted}
use Rattle.reader.specs.Members.{premises_fit}
use Rattle.reader.specs.Walk.{walk_node}
use Rattle.reader_laws.specs.Scan.{both_parts, every_head}
use Rattle.reader_laws.specs.Under.{under, under_links, under_step_lem, under_links_lem}
use Rattle.reader_laws.specs.Entered.{node_count}
use Rattle.derivation_rules.specs.Rules.{State}
use Rattle.derivation_rules.specs.Check.{node_fault, premise_state}
use Rattle.derivation_frames.specs.Frames.{state_of, Framed, Kept, kept_self, kept_state, kept_framed}
use Rattle.derivation_members.specs.Needs.{At}
use Rattle.derivation_nodes.specs.Nodes.{Ready}
use Rattle.derivation_nodes.specs.Premised.{Passed, passed, premise_count, Premised}
use Rattle.derivation_walk.specs.Walked.{visit, visit_stop, visit_go, follow, follow_none, follow_stop, follow_go}

-- node n is to be entered at depth d, where `count` nodes were entered before
pub record Entering (rd : Reader) (keys frames : List ℕ) (d n count : ℕ) : Type 0 where
  pub here : At rd keys frames d n
  pub header : is_rule 2 (rd 0 0) ≡ false
  pub rule : is_rule 2 (rd n 0) ≡ true
  pub few : count + under 2 rd n ≤ 4294967296

-- the frame of depth d + 1 is that of premise b of node n
pub record Next (rd : Reader) (size : ℕ) (before : List ℕ) (d n b : ℕ) (frames : List ℕ) : Type 0 where
  pub framed : Framed rd size frames (d + 1)
  pub state : state_of rd frames (d + 1) ≡ premise_state rd (state_of rd before d) n b

-- node n was tested at depth d, and where it passed, the frame of its first premise is written
pub record Opened (rd : Reader) (size : ℕ) (before : List ℕ) (d n why : ℕ) (frames : List ℕ) : Type 0 where
  pub kept : Kept d before frames
  pub next : why ≡ 0 → (lower rd n 2 ≡ 0 → ⊥) → Next rd size before d n 0 frames

-- node n of depth d passed its tests, its first premise's frame is written, and `entered` nodes were entered, itself included
pub record Following (rd : Reader) (keys frames : List ℕ) (d n entered : ℕ) : Type 0 where
  pub here : At rd keys frames d n
  pub header : is_rule 2 (rd 0 0) ≡ false
  pub pos : 0 < n
  pub pass : node_fault rd (state_of rd frames d) n ≡ 0
  pub few : entered + under_links 2 rd (lower rd n 2) ≤ 4294967296
  pub next : (lower rd n 2 ≡ 0 → ⊥) → Next rd (length keys) frames d n 0 frames

-- the items of a chain are rule nodes
unfoldable pub AreNodes : Reader → ℕ → Type 0
AreNodes rd c = every (λ x. is_rule 2 (rd x 0)) (items rd c) ≡ true

-- before a turn: link c names premise b of node n, and what is left from there gives the answer
pub record Turn (rd : Reader) (keys before : List ℕ) (d n entered : ℕ) (frames : List ℕ) (c b count : ℕ) : Type 0 where
  pub kept : Kept d before frames
  pub long : length frames ≡ length before
  pub steps : b + c ≤ n
  pub all : AreNodes rd c
  pub places : b + length (items rd c) ≡ premise_count rd (state_of rd before d) n
  pub few : count + under_links 2 rd c ≤ 4294967296
  pub rest : follow rd (lower rd n 2) n 0 (state_of rd before d) entered ≡ follow rd c n b (state_of rd before d) count
  pub next : (c ≡ 0 → ⊥) → Next rd (length keys) before d n b frames

-- a rule node is not the header
entering_pos : (rd : Reader) (keys frames : List ℕ) (d n count : ℕ) → Entering rd keys frames d n count → 0 < n
entering_pos rd keys frames d zero count e = absurd (false≢true (sym e.header ∙ e.rule))
entering_pos rd keys frames d (suc n) count e = omega arith

-- and can be counted
pub entering_count : (rd : Reader) (keys frames : List ℕ) (d n count : ℕ) → Entering rd keys frames d n count → count + 1 ≤ 4294967296
entering_count rd keys frames d n count e = omega (arith, e.few, under_step_lem 2 rd n (entering_pos rd keys frames d n count e))

-- the frames to depth d stayed, and stayed again
pub kept_then : (d : ℕ) (before frames after : List ℕ) → Kept d before frames → Kept (d + 1) frames after → Kept d before after
kept_then d before frames after k l = record { same = λ i h. l.same i (omega arith) ∙ k.same i h }

kept_twice : (d : ℕ) (before frames after : List ℕ) → Kept d before frames → Kept d frames after → Kept d before after
kept_twice d before frames after k l = record { same = λ i h. l.same i h ∙ k.same i h }

-- a link's item is a rule node, and so are those after it
module _ (rd : Reader) (c : ℕ) (pos : c ≡ 0 → ⊥) (all : AreNodes rd c) where
  both_nodes : (is_rule 2 (rd (lower rd c 1) 0) ≡ true) × AreNodes rd (lower rd c 3)
  unfolding AreNodes
  both_nodes = every_head (λ x. is_rule 2 (rd x 0)) (lower rd c 1) (items rd (lower rd c 3)) (rw (items_step rd c (omega arith)) at all)

  split : under_links 2 rd c ≡ under 2 rd (lower rd c 1) + under_links 2 rd (lower rd c 3)
  split = under_links_lem 2 rd c (omega arith) both_nodes.0

  one_less : length (items rd c) ≡ suc (length (items rd (lower rd c 3)))
  one_less = ap length (items_step rd c (omega arith))

-- the next link is a smaller record
pub turn_less : (rd : Reader) (c e : ℕ) → (c ≡ 0 → ⊥) → e ≡ lower rd c 3 → e < c
turn_less rd c e some ee = omega (arith, lower_below rd c 3 (omega arith))

-- the premises of a node that passes are rule nodes
rules : (rd : Reader) (st : State) (n : ℕ) → node_fault rd st n ≡ 0 → every (λ x. is_rule 2 (rd x 0)) (premises rd n) ≡ true
unfolding premises_fit
rules rd st n h = (both_parts _ _ (passed rd st n (node_fault rd st n) refl h).nodes).1

module _ (rd : Reader) (st : State) (n : ℕ) (pass : node_fault rd st n ≡ 0) where
  first_rules : AreNodes rd (lower rd n 2)
  unfolding AreNodes premises
  first_rules = rules rd st n pass

  first_places : length (items rd (lower rd n 2)) ≡ premise_count rd st n
  unfolding premises premise_count premises_fit
  first_places = eqb-true _ _ (both_parts _ _ (passed rd st n (node_fault rd st n) refl pass).nodes).0

-- What `enter` asks of its call, and what it has done.
module _ (rd : Reader) (before : List ℕ) (d n why : ℕ) (ew : why ≡ node_fault rd (state_of rd before d) n) where
  pub opened_not : (size : ℕ) → (why ≡ 0 → ⊥) → Opened rd size before d n why before
  opened_not size h = record { kept = kept_self d before; next = λ z. absurd (h z) }

  pub opened_passed : why ≡ 0 → Passed rd (state_of rd before d) n
  opened_passed z = passed rd (state_of rd before d) n why ew z

  pub opened_place : why ≡ 0 → (c : ℕ) → c ≡ lower rd n 2 → (c ≡ 0 → ⊥) → 0 < premise_count rd (state_of rd before d) n
  opened_place z c ec some =
      let pass : node_fault rd (state_of rd before d) n ≡ 0 = sym ew ∙ z in
      omega (arith, first_places rd (state_of rd before d) n pass, one_less rd (lower rd n 2) (λ h. some (ec ∙ h)) (first_rules rd (state_of rd before d) n pass))

pub opened_none : (rd : Reader) (size : ℕ) (before : List ℕ) (d n c : ℕ) → c ≡ lower rd n 2 → c ≡ 0 → Opened rd size before d n 0 before
opened_none rd size before d n c ec none = record { kept = kept_self d before; next = λ h some. absurd (some (sym ec ∙ none)) }

pub opened_first : (rd : Reader) (size : ℕ) (before : List ℕ) (d n : ℕ) (frames : List ℕ) → Premised rd size d n 0 before frames → Opened rd size before d n 0 frames
opened_first rd size before d n frames p = record { kept = p.kept; next = λ h some. record { framed = p.framed; state = p.state } }

-- The ways out of a node that was entered.
module _ (rd : Reader) (keys before : List ℕ) (d n count : ℕ) (e : Entering rd keys before d n count) (why : ℕ)
    (ew : why ≡ node_fault rd (state_of rd before d) n) (frames : List ℕ) (o : Opened rd (length keys) before d n why frames) (l : length frames ≡ length before) where
  pub entered_stop : (why ≡ 0 → ⊥) → answer why 2 n (count + 1) ≡ visit rd n (state_of rd before d) count
  entered_stop h = visit_stop rd n (state_of rd before d) count (entering_pos rd keys before d n count e) why ew h

  module _ (z : why ≡ 0) where
    opened_state : state_of rd frames d ≡ state_of rd before d
    opened_state = kept_state d before frames o.kept rd e.here.framed.start

    pub entered_following : Following rd keys frames d n (count + 1)
    entered_following =
        let pos : 0 < n = entering_pos rd keys before d n count e in
        record {
          here = record {
            table = e.here.table;
            small = e.here.small;
            framed = kept_framed d before frames o.kept rd (length keys) l e.here.framed;
            within = e.here.within;
          };
          header = e.header;
          pos = pos;
          pass = rw opened_state (sym ew ∙ z);
          few = omega (arith, e.few, under_step_lem 2 rd n pos);
          next = λ some. let first = o.next z some in record { framed = first.framed; state = rw opened_state first.state };
        }

    pub entered_go : (r : Answer) → r ≡ follow rd (lower rd n 2) n 0 (state_of rd frames d) (count + 1) → r ≡ visit rd n (state_of rd before d) count
    entered_go r er = visit_go rd n (state_of rd before d) count (entering_pos rd keys before d n count e) why ew z r (rw (← opened_state) er)

    pub entered_kept : (after : List ℕ) → Kept d frames after → Kept d before after
    entered_kept after k = kept_twice d before frames after o.kept k

module _ (rd : Reader) (keys before : List ℕ) (d n entered : ℕ) (start : Following rd keys before d n entered) where
  abbrev st : State
  st = state_of rd before d

  pub first_turn : (c : ℕ) → c ≡ lower rd n 2 → Turn rd keys before d n entered before c 0 entered
  first_turn c ec = record {
    kept = kept_self d before;
    long = refl;
    steps = omega (arith, lower_below rd n 2 start.pos);
    all = rw ec (first_rules rd st n start.pass);
    places = rw ec (omega (arith, first_places rd st n start.pass));
    few = rw ec start.few;
    rest = rw ec refl;
    next = λ h. start.next (λ z. h (ec ∙ z));
  }

  -- a turn
  module _ (frames : List ℕ) (c b count : ℕ) (t : Turn rd keys before d n entered frames c b count) where
    -- no premise is left
    pub turn_end : c ≡ 0 → accepted count ≡ follow rd (lower rd n 2) n 0 st entered
    turn_end z = follow_none rd c n b st count z ∙ sym t.rest

    module _ (some : c ≡ 0 → ⊥) (x : ℕ) (ex : x ≡ lower rd c 1) where
      low : x < n
      low = omega (arith, lower_below rd c 1 (omega arith), t.steps)

      -- the premise is entered
      pub turn_entering : Entering rd keys frames (d + 1) x count
      turn_entering = record {
        here = record {
          table = start.here.table;
          small = start.here.small;
          framed = (t.next some).framed;
          within = omega (arith, low, start.here.within);
        };
        header = start.header;
        rule = rw ex (both_nodes rd c some t.all).0;
        few = rw ex (omega (arith, t.few, split rd c some t.all));
      }

      pub turn_falls : (u : ℕ) → 2 * n ≡ u → 2 * x + 1 < u
      turn_falls u e = omega (arith, low)

      module _ (after : List ℕ) (l : length after ≡ length frames) (kept : Kept (d + 1) frames after) (a : Answer)
          (ea : a ≡ visit rd x (state_of rd frames (d + 1)) count) where
        pub turn_kept : Kept d before after
        turn_kept = kept_then d before frames after t.kept kept

        answers : a ≡ visit rd (lower rd c 1) (premise_state rd st n b) count
        answers = ea ∙ rw (ex, (t.next some).state) refl

        -- it is refused
        pub turn_stop : (a.refusal ≡ 0 → ⊥) → a ≡ follow rd (lower rd n 2) n 0 st entered
        turn_stop h = follow_stop rd c n b st count some a answers h ∙ sym t.rest

        counted : a.nodes ≤ count + under 2 rd (lower rd c 1)
        unfolding visit
        counted =
            let most = node_count 2 rd (node_fault rd) (premise_state rd) (rules rd) (lower rd c 1) (premise_state rd st n b) count (both_nodes rd c some t.all).0 in
            let same : a.nodes ≡ (walk_node rd (node_fault rd) (premise_state rd) (lower rd c 1) (premise_state rd st n b) count).nodes =
            ap (λ (z : Answer). z.nodes) answers in
            omega arith

        -- it is accepted, and the next premise is to be walked
        same_state : state_of rd after d ≡ st
        same_state = kept_state d before after turn_kept rd start.here.framed.start

        pub turn_at : At rd keys after d n
        turn_at = record {
          table = start.here.table;
          small = start.here.small;
          framed = kept_framed d before after turn_kept rd (length keys) (l ∙ t.long) start.here.framed;
          within = start.here.within;
        }

        pub turn_passed : Passed rd (state_of rd after d) n
        turn_passed = rw same_state (passed rd st n (node_fault rd st n) refl start.pass)

        module _ (e : ℕ) (ee : e ≡ lower rd c 3) where
          pub turn_place : (e ≡ 0 → ⊥) → b + 1 < premise_count rd (state_of rd after d) n
          turn_place h =
              let more : length (items rd e) ≡ suc (length (items rd (lower rd e 3))) = one_less rd e h (rw ee (both_nodes rd c some t.all).1) in
              let own : length (items rd c) ≡ suc (length (items rd e)) = rw ee (one_less rd c some t.all) in
              rw same_state (omega (arith, t.places))

          next_turn : a.refusal ≡ 0 → (pushed : List ℕ) → Kept d before pushed → length pushed ≡ length before →
              ((e ≡ 0 → ⊥) → Next rd (length keys) before d n (b + 1) pushed) → Turn rd keys before d n entered pushed e (b + 1) a.nodes
          next_turn z pushed k lp next = record {
            kept = k;
            long = lp;
            steps = omega (arith, t.steps, lower_below rd c 3 (omega arith));
            all = rw ee (both_nodes rd c some t.all).1;
            places = rw ee (omega (arith, t.places, one_less rd c some t.all));
            few = rw ee (omega (arith, t.few, split rd c some t.all, counted));
            rest = t.rest ∙ follow_go rd c n b st count some a answers z ∙ rw ee refl;
            next = next;
          }

          pub next_none : a.refusal ≡ 0 → e ≡ 0 → Turn rd keys before d n entered after e (b + 1) a.nodes
          next_none z none = next_turn z after turn_kept (l ∙ t.long) (λ h. absurd (h none))

          pub next_some : a.refusal ≡ 0 → (pushed : List ℕ) → length pushed ≡ length after → Premised rd (length keys) d n (b + 1) after pushed →
              Turn rd keys before d n entered pushed e (b + 1) a.nodes
          next_some z pushed lp p =
              next_turn z pushed (kept_twice d before after pushed turn_kept p.kept) (lp ∙ l ∙ t.long)
              (λ h. record { framed = p.framed; state = rw (← same_state) p.state })

-- the table of reaches came back as it was
pub ready_same : (rd : Reader) (keys first reaches : List ℕ) → Ready rd keys first → reaches ≡ first → Ready rd keys reaches
ready_same rd keys first reaches ready e = rw e ready
