use Rattle.derivation_paths.specs.Paths.{key_sign, key_plain}
use Rattle.derivation_paths.proofs.paths.is_record.Goals as goal

pub returns-then-key-lt2 : goal.returns-then-key-lt2
returns-then-key-lt2 c = search key_sign

pub returns : goal.returns
returns c = search key_plain
