-- Both files as one reader.
use Rattle.std.specs.Prelude.{ℕ, ◌<◌}
use Rattle.reader.specs.Words.{Reader, word}
use Rattle.reader.specs.declared.Files.{Files}

-- word w of record i of both files
unfoldable pub words : Files → Reader
words f = word f.obligation.now f.second.now f.m

-- each word has 32 bits
pub words_small : (f : Files) (i w : ℕ) → words f i w < 4294967296
unfolding words
words_small f i w = f.small i w
