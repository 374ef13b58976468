-- Laws of numbers in decimal, and of bytes written before others.
use Rattle.std.specs.Prelude.{ℕ, zero, suc, ◌+◌, ◌-◌, ◌/◌, ◌%◌, ◌^◌, ◌<◌, ◌≤◌, ◌≡◌, refl, List, [], ◌∷◌, ◌++◌, length, take, drop, set}
use Rattle.std.proofs.Common.{sym, ap, ◌∙◌, pow-suc, sub-one, arith, lt-ltb, le-ltb, length-set, length-drop, take_all, take-take, drop-cons, get_or-set_same, drop-set-lt}
use Rattle.std.proofs.lemmas.List.{take-set-le}
use Rattle.std.proofs.Math.Seq.{append_snoc}
use Rattle.reader.specs.Tests.{if_lt}
use Rattle.reader.specs.DownLaws.{Local, down_zero, down_step}
use Rattle.reader.specs.declared.Answer.{Answer}
use Rattle.programs_lines.specs.Lines.{digit, decimal_step, decimal, numbers_line, line, translation_line, EndsIn}

step_local : Local decimal_step
unfolding decimal_step
step_local f g n p h = rw (h (n / 10) (omega arith))

decimal_step_lem : (n : ℕ) → decimal n ≡ decimal_step decimal n
unfolding decimal decimal_step if_lt
decimal_step_lem zero = down_zero (digit 0 ∷ []) decimal_step
decimal_step_lem (suc n) = down_step (digit 0 ∷ []) decimal_step step_local (suc n) (omega arith)

-- a number of one digit
pub decimal_last : (n : ℕ) → n < 10 → decimal n ≡ digit n ∷ []
unfolding decimal_step if_lt
decimal_last n h = rw (decimal_step_lem n) (simp (decimal_step, if_lt, lt-ltb n 10 h))

-- a number of more digits
pub decimal_more : (n : ℕ) → 10 ≤ n → decimal n ≡ decimal (n / 10) ++ (digit (n % 10) ∷ [])
unfolding decimal_step if_lt
decimal_more n h = rw (decimal_step_lem n) (simp (decimal_step, if_lt, le-ltb n 10 h))

-- a byte written before others
pub put_before : (l : List ℕ) (end b : ℕ) → 0 < end → end ≤ length l → drop (end - 1) (set l (end - 1) b) ≡ b ∷ drop end l
put_before l zero b p h = elim p [ ]
put_before l (suc i) b p h =
    let inside : i < length (set l i b) = rw length-set h in
    rw (sub-one, drop-cons (set l i b) i 0 inside, get_or-set_same l i b 0 h, drop-set-lt (suc i) l i b (omega arith))

-- the bytes before it stay
pub put_kept : (l : List ℕ) (end b : ℕ) → take (end - 1) (set l (end - 1) b) ≡ take (end - 1) l
put_kept l end b = take-set-le (end - 1) l (end - 1) b (omega arith)

-- what two writes leave, the second before the first
pub kept_on : (r end : ℕ) (x y z : List ℕ) → r < end → take r x ≡ take r y → take end y ≡ take end z → take r x ≡ take r z
kept_on r end x y z h p q = let below : r ≤ end = omega arith in p ∙ sym (take-take r end y below) ∙ ap (take r) q ∙ take-take r end z below

-- the second a byte
pub kept_byte : (r end : ℕ) (x y z : List ℕ) → r + 1 ≡ end → take r x ≡ take r y → take end y ≡ take end z → take r x ≡ take r z
kept_byte r end x y z h = kept_on r end x y z (omega arith)

-- a number of k digits at most, without its last digit
shorter : (n k : ℕ) → 10 ≤ n → n < 10 ^ k → (1 < k) × (n / 10 < 10 ^ (k - 1))
shorter n zero p q = absurd (omega arith)
shorter n (suc zero) p q = absurd (omega arith)
shorter n (suc (suc k)) p q = (omega arith, rw sub-one (omega (arith, pow-suc 10 (suc k))))

-- n is being written before `tail`: what is left of it has room, and stands before what is written
pub record Writing (n rest end begin : ℕ) (out tail : List ℕ) : Type 0 where
  pub inside : begin ≤ end
  pub room : end < begin + 20
  pub few : rest < 10 ^ (begin + 20 - end)
  pub text : decimal rest ++ drop begin out ≡ decimal n ++ tail

pub writing_start : (n end : ℕ) (out : List ℕ) → n < 2 ^ 64 → Writing n n end end out (drop end out)
writing_start n end out h =
    let places : end + 20 - end ≡ 20 = omega arith in
    record { inside = omega arith; room = omega arith; few = rw places (omega arith); text = refl }

pub writing_turn : (n rest end begin r : ℕ) (out out' tail : List ℕ) → Writing n rest end begin out tail → 10 ≤ rest → r + 1 ≡ begin
    → drop r out' ≡ digit (rest % 10) ∷ drop begin out → Writing n (rest / 10) end r out' tail
writing_turn n rest end begin r out out' tail w h e d =
    let less = shorter rest (begin + 20 - end) h w.few in
    let more : 1 < begin + 20 - end = less.0 in
    let places : r + 20 - end ≡ begin + 20 - end - 1 = omega arith in
    record {
      inside = omega (arith, w.inside);
      room = omega arith;
      few = rw places less.1;
      text = rw (d, ← append_snoc (decimal (rest / 10)) (digit (rest % 10)) (drop begin out), ← decimal_more rest h) w.text;
    }

pub writing_end : (n rest end begin r : ℕ) (out out' tail : List ℕ) → Writing n rest end begin out tail → rest < 10 → r + 1 ≡ begin
    → drop r out' ≡ digit rest ∷ drop begin out → (r < end) × (end ≤ r + 20) × (drop r out' ≡ decimal n ++ tail)
writing_end n rest end begin r out out' tail w h e d =
    (omega (arith, w.inside), omega (arith, w.room), d ∙ rw (decimal_last rest h) at w.text)

-- four numbers written before each other, nothing after them
pub numbers_line_of : (a b c d : ℕ) (end s₁ s₂ s₃ s₄ : List ℕ) → end ≡ [] → s₁ ≡ decimal d ++ (10 ∷ end) → s₂ ≡ decimal c ++ (32 ∷ s₁)
    → s₃ ≡ decimal b ++ (32 ∷ s₂) → s₄ ≡ decimal a ++ (32 ∷ s₃) → s₄ ≡ numbers_line a b c d
unfolding numbers_line
numbers_line_of a b c d end s₁ s₂ s₃ s₄ none e₁ e₂ e₃ e₄ = rw (e₄, e₃, e₂, e₁, none)

-- the line of an answer has its four numbers
pub line_ends_in : (a : Answer) (before out : List ℕ) (begin : ℕ) →
    EndsIn 84 (numbers_line a.refusal a.file a.at a.nodes) before out begin → EndsIn 84 (line a) before out begin
unfolding line
line_ends_in a before out begin w = w

-- an area that ends in the line of an answer ends in that of an equal one
pub ends_in_equal : (a b : Answer) (before out : List ℕ) (begin : ℕ) → a ≡ b → EndsIn 84 (line a) before out begin → EndsIn 84 (line b) before out begin
ends_in_equal a b before out begin e w = rw (← e) w

-- five numbers written before each other, nothing after them
pub translation_line_of : (a : Answer) (n : ℕ) (end s₁ s₂ s₃ s₄ s₅ : List ℕ) → end ≡ [] → s₁ ≡ decimal n ++ (10 ∷ end) → s₂ ≡ decimal a.nodes ++ (32 ∷ s₁)
    → s₃ ≡ decimal a.at ++ (32 ∷ s₂) → s₄ ≡ decimal a.file ++ (32 ∷ s₃) → s₅ ≡ decimal a.refusal ++ (32 ∷ s₄) → s₅ ≡ translation_line a n
unfolding translation_line
translation_line_of a n end s₁ s₂ s₃ s₄ s₅ none e₁ e₂ e₃ e₄ e₅ = rw (e₅, e₄, e₃, e₂, e₁, none)

-- the slice from the text's begin to the area's end is the text
pub line_slice : (size : ℕ) (text before out : List ℕ) (begin : ℕ) → EndsIn size text before out begin → take (size - begin) (drop begin out) ≡ text
line_slice size text before out begin e =
    take_all (size - begin) (drop begin out) (omega (arith, length-drop begin out, e.whole)) ∙ e.stands
