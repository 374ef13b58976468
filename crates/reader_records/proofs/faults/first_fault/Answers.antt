use native.Mathlib.Omega.{arith}
use mathlib.Core.Path.{refl}
use Rattle.reader.specs.AnswerLaws.{scan_more, scan_end}
use Rattle.reader.specs.RefusalLaws.{number_some}
use Rattle.reader_weights.specs.Weights.{capped_small, fault_stop}
use Rattle.reader_records.specs.Tables.{weighed_none, weighed_more, looked_next, names_stop, weights_stop, names_last, weights_last}
use Rattle.reader_records.proofs.faults.first_fault.Goals as goal

pub loop-i-init : goal.loop-i-init
loop-i-init c = let p = c.requires in record { named = p.5; weighed = weighed_none _ _ _ p.2; none = refl; clear = p.6; within = omega arith }

pub record_fault-checked-requires : goal.record_fault-checked-requires
record_fault-checked-requires c =
    let p = c.requires in let l = c.loop-i.invariant in (
      c.record_at-x.ensures,
      c.row_of-row.ensures,
      c.weigh-w.ensures,
      p.3,
      omega arith,
      omega arith,
      l.named,
      l.clear,
    )

pub returns-in-Err : goal.returns-in-Err
returns-in-Err c =
    let f = c.in-Err.ensures in let l = c.loop-i.invariant in let some = number_some c.in-Err.fault in (
      fault_stop _ _ _ _ _ _ _ c.file_of-file.ensures l.none (omega arith) f.0 some,
      f.1,
      names_stop _ _ _ _ _ _ _ f.0 some _ f.2,
      weights_stop _ _ _ _ _ _ _ f.0 some _ _ l.weighed,
    )

pub overflow_cast-table : goal.overflow_cast-table
overflow_cast-table c = omega (arith, capped_small _ _ c.weigh-w.ensures)

pub loop-i-preserved : goal.loop-i-preserved
loop-i-preserved c =
    let p = c.requires in let l = c.loop-i in let f = c.in_default.ensures in record {
      named = looked_next _ _ 0 _ refl f.2;
      weighed = weighed_more _ _ l.table l.i _ (omega arith) l.invariant.weighed c.weigh-w.ensures;
      none = scan_more _ _ _ _ _ l.invariant.none (omega arith) _ f.0 refl;
      clear = f.1;
      within = omega arith;
    }

pub returns : goal.returns
returns c =
    let l = c.loop-i.invariant in (
      scan_end _ _ _ _ _ l.none (omega arith),
      l.clear,
      names_last _ _ _ _ (omega arith) (omega arith) (omega arith) _ l.named,
      weights_last _ _ _ _ (omega arith) (omega arith) (omega arith) _ _ l.weighed,
    )
