-- Each kind is stored by its own function.
use Rattle.frames.specs.Writing.{written_as}
use Rattle.frames.proofs.writer.put_frame.Goals as goal

pub returns-in-Message : goal.returns-in-Message
unfolding written_as
returns-in-Message c = rw c.in-Message.is c.put_message.ensures

pub returns-in-Report : goal.returns-in-Report
unfolding written_as
returns-in-Report c = rw c.in-Report.is c.put_right.ensures

pub returns-in-Delete : goal.returns-in-Delete
unfolding written_as
returns-in-Delete c = rw c.in-Delete.is c.put_right-in-Delete.ensures
