-- The segments of a text, put one after another.
use Rattle.std.proofs.Common.{◌≡◌, ℕ, true, false, List, [], length, take, drop, Result, Ok, Err, sym, ap, ◌∙◌, arith}
use Rattle.std.proofs.lemmas.List.{take-append-drop, take_all}
use Rattle.edi_segments.specs.declared.machine.Machine.{Machine}
use Rattle.edi_segments.specs.declared.segment.Segment.{Segment}
use Rattle.edi_segments.specs.declared.fault.TokenFault.{TokenFault}
use Rattle.edi_segments.specs.declared.fault.TokenFault.TheVariants.{TooLong, ServiceString, Byte, Cut, Tag, LongSegment, Read, Memory}
use Rattle.edi_segments.specs.Reading.{Reading, run, GivesFault}
use Rattle.edi_segments.specs.Machine.{reading_of, after}
use Rattle.edi_segments.proofs.Pieces.{run_on}
use Rattle.edi_tokens.proofs.Lent.{run_lent, run_lent_fails}

pub fails_is : {Y : Type 0} (fault : TokenFault) (given : Result Y TokenFault) → given ≡ Err fault → GivesFault fault given
fails_is TooLong given e = e
fails_is ServiceString given e = e
fails_is Byte given e = e
fails_is Cut given e = e
fails_is Tag given e = e
fails_is LongSegment given e = e
fails_is Read given e = e
fails_is Memory given e = tt

module _ (lent : List Segment) (m next : Machine) (rest : List ℕ) (total : Result Reading TokenFault)
    (so_far : run (reading_of lent m) rest ≡ total) where
  pub stops_in : (fault : TokenFault) → run (reading_of [] m) rest ≡ Err fault → GivesFault fault total
  stops_in fault fails = fails_is fault total (sym so_far ∙ run_lent_fails lent m rest fault fails)

  pub all_in : (count : ℕ) → count ≡ length rest → run (reading_of [] m) (take count rest) ≡ Ok (after [] false next)
      → total ≡ Ok (reading_of lent next)
  all_in count whole runs =
      sym so_far ∙ ap (run (reading_of lent m)) (sym (take_all count rest (omega arith)))
      ∙ run_lent lent m next false (take count rest) runs

  pub one_in : (count : ℕ) → run (reading_of [] m) (take count rest) ≡ Ok (after [] true next)
      → run (after lent true next) (drop count rest) ≡ total
  one_in count runs =
      sym (run_on (reading_of lent m) (after lent true next) (take count rest)
      (drop count rest) (run_lent lent m next true (take count rest) runs))
      ∙ ap (run (reading_of lent m)) (take-append-drop count rest) ∙ so_far
