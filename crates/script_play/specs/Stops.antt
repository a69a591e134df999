-- A play that stops, as a course and as a status.
use Rattle.std.specs.Prelude.{Result, Ok, Err}
use Rattle.call_outcomes.specs.Course.{Course, write_fault, no_memory, whole}
use Rattle.run_save.specs.declared.status.Status.{Status}
use Rattle.run_save.specs.declared.status.Status.TheVariants as status
use Rattle.script_play.specs.declared.stops.PlayStop.{PlayStop}
use Rattle.script_play.specs.declared.stops.PlayStop.TheVariants.{BadScript, Limit, WriteFault, NoMemory}

-- the course of a play that stops: before a refused line all is written, and at a limit its line too
abbrev pub course_of : PlayStop → Course
course_of (BadScript r) = whole
course_of (Limit l) = whole
course_of WriteFault = write_fault
course_of NoMemory = no_memory

-- and of one that may have come to its end
abbrev pub course : {A : Type 0} → Result A PlayStop → Course
course (Ok a) = whole
course (Err stop) = course_of stop

-- the status that tells it
abbrev pub status_of : PlayStop → Status
status_of (BadScript r) = status.BadScript r
status_of (Limit l) = status.Limit l
status_of WriteFault = status.WriteFault
status_of NoMemory = status.NoMemory
