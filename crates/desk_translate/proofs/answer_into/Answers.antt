use Rattle.programs_translation_answer.specs.Shown.{saved_inside, saved_derives, written_line}
use Rattle.desk_translate.proofs.answer_into.Goals as goal

pub save_derivation-requires : goal.save_derivation-requires
save_derivation-requires g c = saved_derives _ _ _ _ _ _ _ _ _ c.in-Ok.is c.put_answer-outcome.ensures

pub write_answer-requires : goal.write_answer-requires
write_answer-requires g c = written_line _ _ _ _ _ _ _ _ _ c.put_answer-outcome.ensures c.requires
