-- How a call ends, as far as what it owes about faults, writes and files goes. Each program has one line for each of its
-- statuses, which says of what course it is.
use Rattle.std.specs.Prelude.{Result, Ok, Err}
use Rattle.sv_channels.specs.declared.errors.SinkError.{SinkError}
use Rattle.sv_channels.specs.declared.errors.SinkError.TheVariants.{Failed, NoMemory}

-- The words ask for nothing; a file could not be read; a piece could not be written, or a file not be put; memory ran out;
-- the call ended and writes nothing; or it ended and has written all.
pub data Course : Type 0 where
  usage : Course
  read_fault : Course
  write_fault : Course
  no_memory : Course
  silent : Course
  whole : Course

-- the course of what is written alone
abbrev pub of_writing : {A : Type 0} → Result A SinkError → Course
of_writing (Ok a) = whole
of_writing (Err Failed) = write_fault
of_writing (Err NoMemory) = no_memory
