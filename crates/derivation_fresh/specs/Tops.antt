-- The largest record that a member or the goal may have a constant in: what is known to lack it is passed over. The ways out of the code that finds and uses it.
use Rattle.std.specs.Prelude.{ℕ, ◌+◌, ◌-◌, ◌%◌, ◌<◌, ◌≤◌, ◌≡◌, max, refl, List, Bool, not, ltb}
use Rattle.std.proofs.Math.Path.{sym}
use Rattle.std.proofs.Common.{◌∙◌}
use Rattle.std.proofs.Math.Bool.{true, false}
use Rattle.std.proofs.lemmas.Bool.{false≢true}
use Rattle.std.proofs.Math.Dec.{eqb}
use native.Mathlib.Omega.{arith}
use borrow.Author.Tests.{eqb-true, eqb-false, ltb-true, ltb-false, not-false}
use Rattle.reader.specs.Words.{Reader}
use Rattle.reader.specs.Tests.{every, if_eq}
use Rattle.reader.specs.TestLaws.{eq_yes, eq_no}
use Rattle.reader.specs.Trees.{lower}
use Rattle.reader.specs.Variables.{occurs}
use Rattle.derivation_rules.specs.Erase.{bare_tree}
use Rattle.derivation_trees.specs.Keys.{body_of, decoded, Normal}
use Rattle.derivation_trees.specs.Table.{KeyOf}
use Rattle.derivation_frames.specs.Frames.{start_at, goal_at, entry_at, chain_trees, Framed}
use Rattle.derivation_forms.specs.Formed.{chain_end, chain_more}
use Rattle.derivation_known.specs.Known.{has, Known, KnownLacks}
use Rattle.derivation_fresh.specs.Fresh.{lacks, lacks_key, lacks_tree}

-- c is not in the tree of the key, where that has records from `top` on
pub record KeyTop (rd : Reader) (c key top : ℕ) : Type 0 where
  pub far : top < body_of key → occurs c (decoded rd key) ≡ false

-- the same of what entry e of a frame adds
pub record EntryTop (rd : Reader) (c e top : ℕ) : Type 0 where
  pub far : (e ≡ 0 → ⊥) → KeyTop rd c (e - 1) top

-- c is in no item of the chain, where that is above `top`
pub record ChainTop (rd : Reader) (c chain top : ℕ) : Type 0 where
  pub far : top < chain → every (lacks c) (chain_trees rd chain) ≡ true

-- what has records from `top` on, of the members and the goal at depth d, lacks c
pub record Topped (rd : Reader) (frames : List ℕ) (c d top : ℕ) : Type 0 where
  pub chain : ChainTop rd c (entry_at frames (start_at frames d)) top
  pub goal : KeyTop rd c (goal_at frames d) top
  pub added : (f : ℕ) → start_at frames d < f → f ≤ d → EntryTop rd c (entry_at frames f) top

-- the same of the frames to depth f, where `top` is a number of records
pub record Rising (rd : Reader) (size : ℕ) (frames : List ℕ) (c d f top : ℕ) : Type 0 where
  pub low : top ≤ size
  pub chain : ChainTop rd c (entry_at frames (start_at frames d)) top
  pub goal : KeyTop rd c (goal_at frames d) top
  pub added : (g : ℕ) → start_at frames d < g → g ≤ f → EntryTop rd c (entry_at frames g) top

-- the body that an entry adds, 0 for none
unfoldable pub entry_body : ℕ → ℕ
entry_body e = if_eq e 0 0 (body_of (e - 1))

-- a larger number does as well
key_above : (rd : Reader) (c key a b : ℕ) → a ≤ b → KeyTop rd c key a → KeyTop rd c key b
key_above rd c key a b h t = record { far = λ p. t.far (omega arith) }

entry_above : (rd : Reader) (c e a b : ℕ) → a ≤ b → EntryTop rd c e a → EntryTop rd c e b
entry_above rd c e a b h t = record { far = λ given. key_above rd c (e - 1) a b h (t.far given) }

chain_above : (rd : Reader) (c chain a b : ℕ) → a ≤ b → ChainTop rd c chain a → ChainTop rd c chain b
chain_above rd c chain a b h t = record { far = λ p. t.far (omega arith) }

-- The ways out of `key_top` and `entry_top`.
known_lacks : (rd : Reader) (known : List ℕ) (c key : ℕ) (t : Bool) → Known rd known → KnownLacks known c key t → t ≡ true → occurs c (decoded rd key) ≡ false
unfolding has
known_lacks rd known c key t k l h = l.holds rd k h

pub top_known : (rd : Reader) (known : List ℕ) (c key : ℕ) (t : Bool) → Known rd known → KnownLacks known c key t → t ≡ true → KeyTop rd c key 0
top_known rd known c key t k l h = record { far = λ p. known_lacks rd known c key t k l h }

pub top_own : (rd : Reader) (c key : ℕ) → KeyTop rd c key (key % 262144)
unfolding body_of
top_own rd c key = record { far = λ p. absurd (omega arith) }

pub low_own : (key : ℕ) → key % 262144 ≤ body_of key
unfolding body_of
low_own key = omega arith

pub top_none : (rd : Reader) (c e : ℕ) → e ≡ 0 → EntryTop rd c e 0
top_none rd c e h = record { far = λ given. absurd (given h) }

pub top_some : (rd : Reader) (c e r : ℕ) → (e ≡ 0 → ⊥) → KeyTop rd c (e - 1) r → EntryTop rd c e r
top_some rd c e r given k = record { far = λ h. k }

pub low_some : (e r : ℕ) → (e ≡ 0 → ⊥) → r ≤ body_of (e - 1) → r ≤ entry_body e
unfolding entry_body
low_some e r given h = let body : body_of (e - 1) ≡ if_eq e 0 0 (body_of (e - 1)) = eq_no e 0 _ _ (body_of (e - 1)) given refl in rw (← body) h

-- The ways out of `chain_known` and `chain_top`.
module _ (rd : Reader) (c chain l : ℕ) (inv : every (lacks c) (chain_trees rd chain) ≡ every (lacks c) (chain_trees rd l)) where
  pub known_end : l ≡ 0 → true ≡ true → every (lacks c) (chain_trees rd chain) ≡ true
  known_end h e = sym (chain_end rd (lacks c) chain l inv h)

  pub known_more : (l ≡ 0 → ⊥) → (item : ℕ) → item ≡ lower rd l 1 → (size x : ℕ) → KeyOf rd size x (bare_tree rd item) →
      (known : List ℕ) → Known rd known → (t : Bool) → KnownLacks known c x t → not t ≡ false → (rest : ℕ) → rest ≡ lower rd l 3 →
      every (lacks c) (chain_trees rd chain) ≡ every (lacks c) (chain_trees rd rest)
  known_more given item ei size x k known facts t found h rest er =
      let no : occurs c (decoded rd x) ≡ false = known_lacks rd known c x t facts found (not-false t h) in
      let own : true ≡ lacks c (decoded rd x) = lacks_key rd c x false (sym no) in
      chain_more rd (lacks c) chain l inv given item ei true (lacks_tree rd size c x (bare_tree rd item) true k own) refl rest er

pub known_not : {A : Type 0} → false ≡ true → A
known_not h = absurd (false≢true h)

pub chain_known : (rd : Reader) (c chain : ℕ) (t : Bool) → (t ≡ true → every (lacks c) (chain_trees rd chain) ≡ true) → t ≡ true → ChainTop rd c chain 0
chain_known rd c chain t e h = record { far = λ p. e h }

pub chain_own : (rd : Reader) (c chain : ℕ) → ChainTop rd c chain chain
chain_own rd c chain = record { far = λ p. absurd (omega arith) }

-- The loop of `top_of`.
module _ (rd : Reader) (size : ℕ) (frames : List ℕ) (c d : ℕ) (here : Framed rd size frames d) where
  pub rising_start : (s chain goal a b top : ℕ) → s ≡ start_at frames d → chain ≡ entry_at frames s → goal ≡ goal_at frames d →
      ChainTop rd c chain a → a ≤ chain → KeyTop rd c goal b → b ≤ body_of goal →
      top ≡ max a b → Rising rd size frames c d s top
  rising_start s chain goal a b top es ec eg p la q lb h = record {
    low = omega (arith, low, small);
    chain = rw (← es, ← ec) (chain_above rd c chain a top (omega arith) p);
    goal = rw (← eg) (key_above rd c goal b top (omega arith) q);
    added = λ g u v. absurd (omega arith);
  }
    where
      low : chain < size
      low = rw (ec, es) here.chain

      small : body_of goal ≤ size
      small = rw eg here.goal.inside

  pub rising_more : (s f e b top next : ℕ) → s ≡ start_at frames d → s ≤ f → f < d → Rising rd size frames c d f top → e ≡ entry_at frames (f + 1) →
      EntryTop rd c e b → b ≤ entry_body e → next ≡ max top b → Rising rd size frames c d (f + 1) next
  unfolding entry_body
  rising_more s f e b top next es low less rising ee q lb h = record {
    low = omega (arith, rising.low, small (eqb e 0) refl);
    chain = chain_above rd c _ top next (omega arith) rising.chain;
    goal = key_above rd c _ top next (omega arith) rising.goal;
    added = λ g u v. go g u v (ltb g (f + 1)) refl;
  }
    where
      small : (z : Bool) → eqb e 0 ≡ z → b ≤ size
      small true z = let none : if_eq e 0 0 (body_of (e - 1)) ≡ 0 = sym (eq_yes e 0 _ _ 0 (eqb-true e 0 z) refl) in omega arith
      small false z =
          let given : e ≡ 0 → ⊥ = eqb-false e 0 z in
          let own : if_eq e 0 0 (body_of (e - 1)) ≡ body_of (e - 1) = sym (eq_no e 0 _ _ (body_of (e - 1)) given refl) in
          let normal : Normal rd size (e - 1) = rw ee (here.added (f + 1) (omega arith) (omega arith) (λ w. given (ee ∙ w))) in
          omega (arith, normal.inside)

      go : (g : ℕ) → start_at frames d < g → g ≤ f + 1 → (z : Bool) → ltb g (f + 1) ≡ z → EntryTop rd c (entry_at frames g) next
      go g u v true z = let near : g < f + 1 = ltb-true g (f + 1) z in entry_above rd c _ top next (omega arith) (rising.added g u (omega arith))
      go g u v false z =
          let far : f + 1 ≤ g = ltb-false g (f + 1) z in
          let one : g ≡ f + 1 = omega arith in
          rw (one, ← ee) (entry_above rd c e b next (omega arith) q)

  pub rising_end : (f top : ℕ) → d ≤ f → Rising rd size frames c d f top → Topped rd frames c d top
  rising_end f top h rising = record { chain = rising.chain; goal = rising.goal; added = λ g p q. rising.added g p (omega arith) }

-- The ways out of `lacks_below` and `chain_below`, and what these are asked about.
pub far_lacks : (rd : Reader) (c key top : ℕ) → KeyTop rd c key top → top < key % 262144 → true ≡ lacks c (decoded rd key)
unfolding body_of
far_lacks rd c key top t h = lacks_key rd c key false (sym (t.far h))

pub near_normal : (rd : Reader) (size top key : ℕ) → Normal rd size key → key % 262144 ≤ top → Normal rd top key
unfolding body_of
near_normal rd size top key a h = record { inside = h; least = a.least; plain = a.plain }

pub far_chain : (rd : Reader) (c chain top : ℕ) → ChainTop rd c chain top → top < chain → true ≡ every (lacks c) (chain_trees rd chain)
far_chain rd c chain top t h = sym (t.far h)

module _ (rd : Reader) (frames : List ℕ) (c d top : ℕ) (topped : Topped rd frames c d top) where
  pub goal_topped : (goal : ℕ) → goal ≡ goal_at frames d → KeyTop rd c goal top
  goal_topped goal e = rw e topped.goal

  pub chain_topped : (s chain : ℕ) → s ≡ start_at frames d → chain ≡ entry_at frames s → ChainTop rd c chain top
  chain_topped s chain es ec = rw (ec, es) topped.chain

  pub entry_topped : (s f e : ℕ) → s ≡ start_at frames d → s ≤ f → f < d → e ≡ entry_at frames (f + 1) → EntryTop rd c e top
  entry_topped s f e es low less ee = rw ee (topped.added (f + 1) (omega arith) (omega arith))

pub goal_normal : (rd : Reader) (size : ℕ) (frames : List ℕ) (d goal : ℕ) → Framed rd size frames d → goal ≡ goal_at frames d → Normal rd size goal
goal_normal rd size frames d goal here e = rw e here.goal
