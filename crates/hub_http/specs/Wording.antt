-- Translates what calls return into the words of the definitions.
use Rattle.std.specs.Prelude.{Result, Ok, Err}
use Rattle.hub_http.specs.Asked.{Asked}
use Rattle.hub_http.specs.declared.asked.Asked.{Asked as AskedHere}
use Rattle.hub_http.specs.declared.refusal.Refusal.{Refusal}

abbrev pub asked_as : AskedHere → Asked
asked_as asked = record {
  route = asked.route;
  part = asked.part.now;
  number = asked.number;
  gln = asked.gln;
  key = asked.key.now;
  size = asked.size;
}

abbrev pub asked_or_refused : Result AskedHere Refusal → Result Asked Refusal
asked_or_refused (Ok asked) = Ok (asked_as asked)
asked_or_refused (Err refusal) = Err refusal
