use Rattle.programs.proofs.files.load_both.Goals as goal

pub returns : goal.returns
returns g c = (c.in_ok-m.ensures, c.in_ok-n.ensures)
