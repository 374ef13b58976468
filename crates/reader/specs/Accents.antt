-- Letters with an accent, and the ASCII letter and the mark that the Unicode Character Database decomposes them into.
use Rattle.std.specs.Prelude.{ℕ, List, [], ◌∷◌, eqb}
use Rattle.reader.specs.Tests.{both, if_true}

-- a line of the database: a letter, and the letter and the mark that it decomposes into; the mark by its second byte, CC `mark`
pub record Decomposition : Type 0 where
  pub letter : ℕ
  pub base : ℕ
  pub mark : ℕ

abbrev pub line : ℕ → ℕ → ℕ → Decomposition
line letter base mark = record { letter = letter; base = base; mark = mark }

-- "the letter U+00C0 to U+00FF that the Unicode Character Database decomposes into them": the lines 00C0 to 00FF of UnicodeData.txt that have a decomposition
abbrev pub decompositions : List Decomposition
decompositions =
    line 192 65 128 ∷ line 193 65 129 ∷ line 194 65 130 ∷ line 195 65 131 ∷ line 196 65 136 ∷ line 197 65 138 ∷ line 199 67 167 ∷ line 200 69 128 ∷
    line 201 69 129 ∷ line 202 69 130 ∷ line 203 69 136 ∷ line 204 73 128 ∷ line 205 73 129 ∷ line 206 73 130 ∷ line 207 73 136 ∷ line 209 78 131 ∷
    line 210 79 128 ∷ line 211 79 129 ∷ line 212 79 130 ∷ line 213 79 131 ∷ line 214 79 136 ∷ line 217 85 128 ∷ line 218 85 129 ∷ line 219 85 130 ∷
    line 220 85 136 ∷ line 221 89 129 ∷ line 224 97 128 ∷ line 225 97 129 ∷ line 226 97 130 ∷ line 227 97 131 ∷ line 228 97 136 ∷ line 229 97 138 ∷
    line 231 99 167 ∷ line 232 101 128 ∷ line 233 101 129 ∷ line 234 101 130 ∷ line 235 101 136 ∷ line 236 105 128 ∷ line 237 105 129 ∷ line 238 105 130 ∷
    line 239 105 136 ∷ line 241 110 131 ∷ line 242 111 128 ∷ line 243 111 129 ∷ line 244 111 130 ∷ line 245 111 131 ∷ line 246 111 136 ∷ line 249 117 128 ∷
    line 250 117 129 ∷ line 251 117 130 ∷ line 252 117 136 ∷ line 253 121 129 ∷ line 255 121 136 ∷ []

-- the letter of the line that has this base and mark, 0 for none
unfoldable pub letter_in : List Decomposition → ℕ → ℕ → ℕ
letter_in [] base mark = 0
letter_in (x ∷ xs) base mark = if_true (both (eqb x.base base) (eqb x.mark mark)) x.letter (letter_in xs base mark)

-- "Letter and mark are the same character as the letter": the character of the letter `base` and CC `mark`, 0 for none
unfoldable pub composed : ℕ → ℕ → ℕ
composed base mark = letter_in decompositions base mark
