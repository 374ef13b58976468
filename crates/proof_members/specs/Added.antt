-- A sequent with a member added.
use Rattle.std.specs.Prelude.{ℕ, ◌+◌, ◌<◌, ◌≡◌, refl, List, [], ◌∷◌, ◌++◌, map, Bool, true, false, ltb, length, take, drop, get_or, set}
use Rattle.std.proofs.Common.{sym, ap, ◌∙◌, length-set, take-suc-set, drop-set-lt, get_or-set_same, get_or-set_other, get_or-take, add-one, arith, ltb-true, ltb-false}
use Rattle.std.proofs.lemmas.List.{map-append, take-set-le}
use Rattle.reader.specs.Words.{Reader}
use Rattle.reader.specs.Trees.{Tree}
use Rattle.proof_members.specs.Keys.{decoded, Normal, Stands}
use Rattle.proof_members.specs.Sequents.{sequent, Ready}

-- after t was added to the h members of a memory, which is else as it was
pub record Added (rd : Reader) (numbers before : List ℕ) (h : ℕ) (t : Tree) (after : List ℕ) : Type 0 where
  pub ready : Ready rd numbers after (h + 1)
  pub more : sequent rd after (h + 1) ≡ sequent rd before h ++ (t ∷ [])
  pub kept : take h after ≡ take h before
  pub rest : drop (h + 1) after ≡ drop (h + 1) before

-- the memory is kept up to h: its members stay
pub sequent_kept : (rd : Reader) (before after : List ℕ) (h : ℕ) → take h after ≡ take h before → sequent rd after h ≡ sequent rd before h
unfolding sequent
sequent_kept rd before after h e = ap (map (decoded rd)) e

pub ready_kept : (rd : Reader) (numbers before after : List ℕ) (h : ℕ) → length after ≡ length before → take h after ≡ take h before →
    Ready rd numbers before h → Ready rd numbers after h
ready_kept rd numbers before after h l e r = record {
  table = r.table;
  long = l ∙ r.long;
  low = r.low;
  keys = record {
    each = λ i p. let same_at : get_or after i 0 ≡ get_or before i 0 = sym (get_or-take h after i 0 p) ∙ ap (λ (x : List ℕ). get_or x i 0) e ∙ get_or-take h before i 0 p in
        rw same_at (r.keys.each i p);
  };
}

-- a key is stored
pub stored : (rd : Reader) (numbers before : List ℕ) (h key : ℕ) (t : Tree) → Ready rd numbers before h → h < 1024 → Stands rd (length numbers) key t →
    Added rd numbers before h t (set before h key)
unfolding sequent
stored rd numbers before h key t r p s =
    let within : h < length before = omega (arith, r.long) in
    record {
      ready = record {
        table = r.table;
        long = length-set before h key ∙ r.long;
        low = omega arith;
        keys = record { each = λ i q. go i q (ltb i h) refl within };
      };
      more = rw (add-one, take-suc-set before h key within, map-append (decoded rd) (take h before) (key ∷ [])) (ap (λ (x : Tree). map (decoded rd) (take h before) ++ (x ∷ [])) s.means);
      kept = take-set-le h before h key (omega arith);
      rest = drop-set-lt (h + 1) before h key (omega arith);
    }
  where
    go : (i : ℕ) → i < h + 1 → (b : Bool) → ltb i h ≡ b → h < length before → Normal rd (length numbers) (get_or (set before h key) i 0)
    go i q true e within = rw (get_or-set_other before h i key 0 (omega (arith, ltb-true i h e))) (r.keys.each i (ltb-true i h e))
    go i q false e within = let z : i ≡ h = omega (arith, ltb-false i h e) in rw (z, get_or-set_same before h key 0 within) s.normal
