-- `lines::Text::put_answer` meets its contract. Assumes nothing.
use Rattle.lines.proofs.Laying.{found_text, refused_text, longer_same}
use Rattle.lines.proofs.Text.put_answer.Goals as goal

pub returns-in-Ok : goal.returns-in-Ok
returns-in-Ok c = longer_same (found_text _ _ c.in-Ok.is) c.put_cell.ensures

pub returns-in-Err : goal.returns-in-Err
returns-in-Err c = longer_same (refused_text _ _ c.in-Err.is) c.put_refusal.ensures
