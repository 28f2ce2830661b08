-- Defines how a connection ends, and the line that reports it.
use Rattle.std.specs.Prelude.{ℕ, ◌==◌, if◌then◌else◌, List, ◌++◌, codes, decimal, Result, Ok, Err}
use Rattle.hub_http.specs.declared.serve.IoFault.{IoFault}
use Rattle.hub_http.specs.declared.serve.IoFault.TheVariants.{Read, Write}
use Rattle.hub_http.specs.declared.serve.Served.{Served}
use Rattle.hub_serve.specs.declared.line.Ending.{Ending}
use Rattle.hub_serve.specs.declared.line.Ending.TheVariants.{Answered, Gone, ReadFailed, WriteFailed}

-- how a connection with this result ended
abbrev pub ending_of : Result Served IoFault → Ending
ending_of (Ok served) = Answered served
ending_of (Err Read) = ReadFailed
ending_of (Err Write) = WriteFailed

-- the line that reports the port
abbrev pub port_line : ℕ → List ℕ
port_line port = codes "listening " ++ (decimal port ++ codes "\n")

-- the end of the line of a connection
abbrev pub end_of : Ending → List ℕ
end_of (Answered served) = decimal served.status ++ codes "\n"
end_of Gone = codes "fault\n"
end_of ReadFailed = codes "fault\n"
end_of WriteFailed = codes "fault\n"

-- the line of a connection, by its number
abbrev pub line_of : ℕ → Ending → List ℕ
line_of number ending = codes "connection " ++ (decimal number ++ (codes " " ++ end_of ending))

-- the exit status of a connection
abbrev pub ending_status : Ending → ℕ
ending_status (Answered served) = if served.status == 200 then 0 else if served.status == 503 then 3 else 1
ending_status Gone = 3
ending_status ReadFailed = 3
ending_status WriteFailed = 3
