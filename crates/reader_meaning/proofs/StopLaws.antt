-- The first test that fails, and the walk that stops, for any calculus: `First` and `Stops` hold exactly of what the definitions answer.
use Rattle.std.specs.Prelude.{ℕ, zero, suc, ◌+◌, ◌<◌, ◌≤◌, ◌≡◌, Bool, ltb}
use Rattle.std.proofs.Math.Path.{refl, ap, subst}
use Rattle.std.proofs.Common.{sym, ◌∙◌, length-append}
use mathlib.Core.List.{List, [], ◌∷◌, ◌++◌, append_assoc}
use Rattle.std.proofs.Math.Bool.{true, false}
use Rattle.std.proofs.Math.Dec.{eqb}
use Rattle.std.proofs.Math.ListN.{length}
use native.Mathlib.Omega.{arith}
use borrow.Author.Tests.{eqb-true, eqb-false, ltb-true, ne_eqb}
use Rattle.reader.specs.declared.Answer.{Answer}
use Rattle.reader.specs.Words.{Reader}
use Rattle.reader.specs.Tests.{demand, every}
use Rattle.reader.specs.Kinds.{is_rule}
use Rattle.reader.specs.Trees.{lower}
use Rattle.reader.specs.Chains.{items, premises}
use Rattle.reader.specs.TreeLaws.{below, lower_below, items_end, items_more}
use Rattle.reader.specs.Answers.{answer, accepted}
use Rattle.reader.specs.Walk.{walk_node, walk_links}
use Rattle.reader.specs.WalkLaws.{Each, node_go, node_stop, link_zero, link_go, link_stop}
use Rattle.reader_laws.specs.Scan.{demand_parts, demand_join, every_head}
use Rattle.reader_laws.specs.NotionLaws.{every_0, every_more}
use Rattle.reader.specs.Notions.{here, there}
use Rattle.reader_meaning.specs.Table.{RuleKind}
use Rattle.reader_meaning.specs.Stops.{Test, test, First, AllHold, Stops}
use Rattle.reader_meaning.proofs.TableLaws.{rule_in, rule_least}
use Rattle.reader_meaning.proofs.RecordRefusals.{demand_true, demand_false}

-- the refusal of some tests, 0 for none
unfoldable pub refusal_of : List Test → ℕ
refusal_of [] = 0
refusal_of (t ∷ ts) = demand t.holds t.number (refusal_of ts)

-- no test has the number 0
abbrev pub Numbered : List Test → Type 0
Numbered ts = every (λ t. ltb 0 t.number) ts ≡ true

-- it is the number of the first that fails
pub first_out : {ts : List Test} {r : ℕ} → First ts r → refusal_of ts ≡ r
unfolding refusal_of
first_out (First.fails {b = b} {n = n} {ts = ts} e) = demand_false b n _ e
first_out (First.later {b = b} {n = n} {ts = ts} e f) = demand_true b n _ e ∙ first_out f

pub first_in : (ts : List Test) → (refusal_of ts ≡ 0 → ⊥) → First ts (refusal_of ts)
unfolding refusal_of
first_in [] h = absurd (h refl)
first_in (t ∷ ts) h = go t.holds refl (first_in ts)
  where
    go : (b : Bool) → t.holds ≡ b → ((refusal_of ts ≡ 0 → ⊥) → First ts (refusal_of ts)) → First (t ∷ ts) (refusal_of (t ∷ ts))
    go true e ih =
        let d = demand_true t.holds t.number (refusal_of ts) e in
        subst (First (t ∷ ts)) (sym d) (First.later e (ih (λ z. h (d ∙ z))))
    go false e ih = subst (First (t ∷ ts)) (sym (demand_false t.holds t.number (refusal_of ts) e)) (First.fails e)

-- where no number is 0, neither is the first's
pub first_given : {ts : List Test} {r : ℕ} → Numbered ts → First ts r → 1 ≤ r
first_given h (First.fails {b = b} {n = n} {ts = ts} e) = ltb-true 0 n (every_head (λ t. ltb 0 t.number) (test b n) ts h).0
first_given h (First.later {b = b} {n = n} {ts = ts} e f) = first_given (every_head (λ t. ltb 0 t.number) (test b n) ts h).1 f

-- there is no refusal exactly where all tests hold
pub all_in : (ts : List Test) → Numbered ts → refusal_of ts ≡ 0 → AllHold ts
unfolding refusal_of
all_in [] n h = every_0 (λ t. t.holds ≡ true)
all_in (t ∷ ts) n h =
    let q = every_head (λ t. ltb 0 t.number) t ts n in
    let some = ltb-true 0 t.number q.0 in
    let p = demand_parts t.holds t.number (refusal_of ts) h (ne_eqb t.number 0 (λ z. omega arith)) in
    every_more (λ t. t.holds ≡ true) t ts p.0 (all_in ts q.1 p.1)

pub all_out : (ts : List Test) → AllHold ts → refusal_of ts ≡ 0
unfolding refusal_of
all_out [] h = refl
all_out (t ∷ ts) h = demand_join t.holds t.number (refusal_of ts) (h t (here refl)) (all_out ts (λ u m. h u (there m)))

-- one more premise that is done
each_last : {S : Type 0} (Q : S → ℕ → ℕ → Type 0) (next : S → ℕ → ℕ → S) (st : S) (n b : ℕ) (xs : List ℕ) (x k j : ℕ) →
    Each Q next st n b xs k → Q (next st n (b + length xs)) x j → Each Q next st n b (xs ++ (x ∷ [])) (k + j)
unfolding Each
each_last Q next st n b [] x k j h q =
    let here_b : b + 0 ≡ b = omega arith in
    let sum : k + j ≡ j + 0 = omega (arith, h) in
    (j, 0, subst (λ (c : ℕ). Q (next st n c) x j) here_b q, refl, sum)
each_last Q next st n b (y ∷ ys) x k j h q =
    let there_b : b + length (y ∷ ys) ≡ b + 1 + length ys = omega arith in
    let sum : k + j ≡ h.0 + (h.1 + j) = omega (arith, h.4) in
    (h.0, h.1 + j, h.2, each_last Q next st n (b + 1) ys x h.1 j h.3 (subst (λ (c : ℕ). Q (next st n c) x j) there_b q), sum)

-- What is asked of a calculus: its tests, in the order of their numbers, are its fault; the premises of a node that passes them are rule nodes; `Within` holds
-- of every state that a walk from such a state comes to; and a node is done exactly where the walk accepts it, record 0 being the header.
pub record Calculus {S : Type 0} (mode : ℕ) (rd : Reader) (fault : S → ℕ → ℕ) (tests : S → ℕ → List Test) (next : S → ℕ → ℕ → S)
    (Done : S → ℕ → ℕ → Type 0) (Within : S → Type 0) : Type 0 where
  pub same : (st : S) (n : ℕ) → fault st n ≡ refusal_of (tests st n)
  pub numbered : (st : S) (n : ℕ) → Numbered (tests st n)
  pub rules : (st : S) (n : ℕ) → fault st n ≡ 0 → every (λ x. is_rule mode (rd x 0)) (premises rd n) ≡ true
  pub stays : (st : S) (n b : ℕ) → Within st → fault st n ≡ 0 → b < length (premises rd n) → Within (next st n b)
  pub walked : (st : S) (n count : ℕ) → Within st → (walk_node rd fault next n st count).refusal ≡ 0 →
      (k : ℕ) × Done st n k × (walk_node rd fault next n st count ≡ accepted (count + k))
  pub walks : rd 0 0 ≡ 1 → (st : S) (n k count : ℕ) → Done st n k → walk_node rd fault next n st count ≡ accepted (count + k)

module _ {S : Type 0} (mode : ℕ) (rd : Reader) (fault : S → ℕ → ℕ) (tests : S → ℕ → List Test) (next : S → ℕ → ℕ → S)
    (Done : S → ℕ → ℕ → Type 0) (Within : S → Type 0) (calculus : Calculus mode rd fault tests next Done Within) (head : rd 0 0 ≡ 1) where
  abbrev visit : ℕ → S → ℕ → Answer
  visit n st count = walk_node rd fault next n st count

  abbrev follow : ℕ → ℕ → ℕ → S → ℕ → Answer
  follow c n b st count = walk_links rd fault next c n b st count

  abbrev Stopped : S → ℕ → ℕ → Answer → Type 0
  Stopped = Stops mode rd tests next Done

  real : (n : ℕ) → RuleKind mode (rd n 0) → 0 < n
  real zero k = let low : 32 ≤ rd 0 0 = rule_least k in absurd (omega arith)
  real (suc n) k = omega arith

  -- at a link: its item refuses, or it accepts and the next link goes on
  at_item : (c n b x : ℕ) (xs : List ℕ) (st : S) (count : ℕ) (a : Answer) → items rd c ≡ x ∷ xs →
      visit x (next st n b) count ≡ a → (a.refusal ≡ 0 → ⊥) → follow c n b st count ≡ a
  at_item c n b x xs st count a e w refused =
      let p = items_more rd c x xs e in
      let v : visit (lower rd c 1) (next st n b) count ≡ a = rw p.1 w in
      link_stop rd fault next n b st count c p.0 (λ z. refused (sym (ap (λ (a : Answer). a.refusal) v) ∙ z)) ∙ v

  past_item : (c n b x : ℕ) (xs : List ℕ) (st : S) (count k : ℕ) → items rd c ≡ x ∷ xs →
      visit x (next st n b) count ≡ accepted k → follow c n b st count ≡ follow (lower rd c 3) n (b + 1) st k
  past_item c n b x xs st count k e w =
      let p = items_more rd c x xs e in
      let v : visit (lower rd c 1) (next st n b) count ≡ accepted k = rw p.1 w in
      link_go rd fault next n b st count c p.0 (ap (λ (a : Answer). a.refusal) v)
      ∙ ap (λ (a : Answer). follow (lower rd c 3) n (b + 1) st a.nodes) v

  -- a chain whose items before one are done, and that one refuses
  at_premise : (c n b : ℕ) (st : S) (before : List ℕ) (x : ℕ) (xs : List ℕ) (k count : ℕ) (a : Answer) → items rd c ≡ before ++ (x ∷ xs) →
      Each Done next st n b before k → visit x (next st n (b + length before)) (count + k) ≡ a → (a.refusal ≡ 0 → ⊥) → follow c n b st count ≡ a
  unfolding Each
  at_premise c n b st [] x xs k count a e h w refused =
      let here_b : b + 0 ≡ b = omega arith in
      let here_k : count + k ≡ count = omega (arith, h) in
      at_item c n b x xs st count a e
      (subst (λ (m : ℕ). visit x (next st n b) m ≡ a) here_k (subst (λ (m : ℕ). visit x (next st n m) (count + k) ≡ a) here_b w)) refused
  at_premise c n b st (y ∷ ys) x xs k count a e h w refused =
      let there_b : b + length (y ∷ ys) ≡ b + 1 + length ys = omega arith in
      let there_k : count + k ≡ count + h.0 + h.1 = omega (arith, h.4) in
      past_item c n b y (ys ++ (x ∷ xs)) st count (count + h.0) e (calculus.walks head (next st n b) y h.0 count h.2)
      ∙ at_premise (lower rd c 3) n (b + 1) st ys x xs h.1 (count + h.0) a (items_more rd c y (ys ++ (x ∷ xs)) e).2 h.3
      (subst (λ (m : ℕ). visit x (next st n (b + 1 + length ys)) m ≡ a) there_k (subst (λ (m : ℕ). visit x (next st n m) (count + k) ≡ a) there_b w)) refused

  -- A walk that stops gives the answer.
  pub stops_out : {st : S} {n count : ℕ} {a : Answer} → Stops mode rd tests next Done st n count a → (walk_node rd fault next n st count ≡ a) × (1 ≤ a.refusal)
  unfolding premises
  stops_out (Stops.here {st = st} {n = n} {count = count} {r = r} k f) =
      let e : fault st n ≡ r = calculus.same st n ∙ first_out f in
      let some : 1 ≤ r = first_given (calculus.numbered st n) f in
      (node_stop rd fault next n st count (real n k) (λ z. omega arith) ∙ ap (λ (r : ℕ). answer r 2 n (count + 1)) e, some)
  stops_out (Stops.in_premise {st = st} {n = n} {count = count} {a = a} before after x j k all e done d) =
      let v = stops_out d in
      let some : 1 ≤ a.refusal = v.1 in
      let b : 0 + length before ≡ length before = omega arith in (
        node_go rd fault next n st count (real n k) (calculus.same st n ∙ all_out (tests st n) all)
            ∙ at_premise (lower rd n 2) n 0 st before x after j (count + 1) a e done
            (subst (λ (m : ℕ). visit x (next st n m) (count + 1 + j) ≡ a) (sym b) v.0) (λ z. omega arith),
        some,
      )

  -- And a walk from a rule node that does not accept stops.
  abbrev Stopping : ℕ → Type 0
  Stopping n = RuleKind mode (rd n 0) → (st : S) (count : ℕ) → Within st → ((visit n st count).refusal ≡ 0 → ⊥) → Stopped st n count (visit n st count)

  -- A node that passes its tests.
  module _ (n : ℕ) (ih : (j : ℕ) → j < n → Stopping j) (k : RuleKind mode (rd n 0)) (st : S) (count : ℕ) (within : Within st) (f : fault st n ≡ 0) where
    all : AllHold (tests st n)
    all = all_in (tests st n) (calculus.numbered st n) (sym (calculus.same st n) ∙ f)

    -- from a link on, all premises before it being done, with j nodes
    from_link : (c : ℕ) (xs before : List ℕ) (j : ℕ) → c < n → items rd c ≡ xs → premises rd n ≡ before ++ xs → every (λ x. is_rule mode (rd x 0)) xs ≡ true →
        Each Done next st n 0 before j → ((follow c n (length before) st (count + 1 + j)).refusal ≡ 0 → ⊥) →
        Stopped st n count (follow c n (length before) st (count + 1 + j))
    from_link c [] before j l e p r d h =
        let z : follow c n (length before) st (count + 1 + j) ≡ accepted (count + 1 + j) =
        rw (items_end rd c e) (link_zero rd fault next n (length before) st (count + 1 + j)) in
        absurd (h (ap (λ (a : Answer). a.refusal) z))
    from_link c (x ∷ ys) before j l e p r d h =
        go (eqb (visit x (next st n (length before)) (count + 1 + j)).refusal 0) refl (from_link (lower rd c 3) ys (before ++ (x ∷ [])))
      where
        fact : 0 < c
        fact = (items_more rd c x ys e).0

        smaller : x < n
        smaller =
            let q : lower rd c 1 < c = lower_below rd c 1 fact in
            let same : lower rd c 1 ≡ x = (items_more rd c x ys e).1 in
            omega arith

        next_smaller : lower rd c 3 < n
        next_smaller = let q : lower rd c 3 < c = lower_below rd c 3 fact in omega arith

        kinds : (is_rule mode (rd x 0) ≡ true) × (every (λ x. is_rule mode (rd x 0)) ys ≡ true)
        kinds = every_head (λ x. is_rule mode (rd x 0)) x ys r

        inner : Within (next st n (length before))
        inner =
            let long : length (premises rd n) ≡ length before + length (x ∷ ys) = ap length p ∙ length-append before (x ∷ ys) in
            calculus.stays st n (length before) within f (omega arith)

        longer : length (before ++ (x ∷ [])) ≡ length before + 1
        longer = length-append before (x ∷ [])

        -- the item accepts, and the next link goes on
        onward : (i : ℕ) → visit x (next st n (length before)) (count + 1 + j) ≡ accepted (count + 1 + j + i) →
            follow c n (length before) st (count + 1 + j) ≡ follow (lower rd c 3) n (length (before ++ (x ∷ []))) st (count + 1 + (j + i))
        onward i w =
            let sum : count + 1 + j + i ≡ count + 1 + (j + i) = omega arith in
            past_item c n (length before) x ys st (count + 1 + j) (count + 1 + j + i) e w
            ∙ ap (λ (b : ℕ). follow (lower rd c 3) n b st (count + 1 + j + i)) (sym longer)
            ∙ ap (λ (m : ℕ). follow (lower rd c 3) n (length (before ++ (x ∷ []))) st m) sum

        go : (b : Bool) → eqb (visit x (next st n (length before)) (count + 1 + j)).refusal 0 ≡ b →
            ((i : ℕ) → lower rd c 3 < n → items rd (lower rd c 3) ≡ ys → premises rd n ≡ (before ++ (x ∷ [])) ++ ys →
            every (λ x. is_rule mode (rd x 0)) ys ≡ true → Each Done next st n 0 (before ++ (x ∷ [])) i →
            ((follow (lower rd c 3) n (length (before ++ (x ∷ []))) st (count + 1 + i)).refusal ≡ 0 → ⊥) →
            Stopped st n count (follow (lower rd c 3) n (length (before ++ (x ∷ []))) st (count + 1 + i))) →
            Stopped st n count (follow c n (length before) st (count + 1 + j))
        go true q rest =
            let a = calculus.walked (next st n (length before)) x (count + 1 + j) inner (eqb-true _ 0 q) in
            let same = onward a.0 a.2 in
            let b : 0 + length before ≡ length before = omega arith in
            subst (Stopped st n count) (sym same)
            (rest (j + a.0) next_smaller (items_more rd c x ys e).2 (p ∙ sym (append_assoc before (x ∷ []) ys)) kinds.1
            (each_last Done next st n 0 before x j a.0 d (subst (λ (m : ℕ). Done (next st n m) x a.0) (sym b) a.1))
            (λ z. h (ap (λ (a : Answer). a.refusal) same ∙ z)))
        go false q rest =
            let refused = eqb-false _ 0 q in
            subst (Stopped st n count) (sym (at_item c n (length before) x ys st (count + 1 + j) _ e refl refused))
            (Stops.in_premise before ys x j k all p d (ih x smaller (rule_in mode _ kinds.0) (next st n (length before)) (count + 1 + j) inner refused))

  stops_step : (n : ℕ) → ((j : ℕ) → j < n → Stopping j) → Stopping n
  unfolding premises Each
  stops_step n ih k st count within h = go (eqb (fault st n) 0) refl
    where
      go : (b : Bool) → eqb (fault st n) 0 ≡ b → Stopped st n count (visit n st count)
      go true e =
          let f : fault st n ≡ 0 = eqb-true _ 0 e in
          let none : count + 1 + 0 ≡ count + 1 = omega arith in
          let same : visit n st count ≡ follow (lower rd n 2) n 0 st (count + 1 + 0) =
          node_go rd fault next n st count (real n k) f ∙ ap (λ (m : ℕ). follow (lower rd n 2) n 0 st m) (sym none) in
          subst (Stopped st n count) (sym same)
          (from_link n ih k st count within f (lower rd n 2) (premises rd n) [] 0 (lower_below rd n 2 (real n k)) refl refl (calculus.rules st n f) refl
          (λ z. h (ap (λ (a : Answer). a.refusal) same ∙ z)))
      go false e =
          let some : fault st n ≡ 0 → ⊥ = eqb-false _ 0 e in
          let same = calculus.same st n in
          let first : First (tests st n) (fault st n) = subst (First (tests st n)) (sym same) (first_in (tests st n) (λ z. some (same ∙ z))) in
          subst (Stopped st n count) (sym (node_stop rd fault next n st count (real n k) some)) (Stops.here k first)

  pub stops_in : (n : ℕ) → RuleKind mode (rd n 0) → (st : S) (count : ℕ) → Within st → ((walk_node rd fault next n st count).refusal ≡ 0 → ⊥) →
      Stops mode rd tests next Done st n count (walk_node rd fault next n st count)
  stops_in = below Stopping stops_step
