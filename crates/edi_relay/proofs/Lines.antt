-- Lines and mail texts on their way to writers.
use Rattle.std.proofs.Common.{◌≡◌, ℕ, Bool, true, false, List, [], ◌++◌, Option, Result, Ok, Err, sym, ap, ◌∙◌, append-nil, append_assoc}
use Rattle.std.specs.Prelude.{OnOk, OnErr, is_ok}
use Rattle.std.proofs.lemmas.Bool.{true≢false, false≢true}
use Rattle.std.specs.Io.KnownBytes.{Appends}
use Rattle.std.proofs.KnownBytes.{Appends-trans}
use Rattle.edi_base.specs.Buffer.{AppendsFront}
use Rattle.edi_relay.specs.ErrorLines.{WritesLine}

-- a fact where a call failed, or did not
pub on_err : {T E P : Type 0} (r : Result T E) → P → OnErr r P
on_err (Ok x) p = tt
on_err (Err e) p = p

pub at_ok : {T E P : Type 0} (r : Result T E) → OnOk r P → is_ok r ≡ true → P
at_ok (Ok x) p e = p
at_ok (Err d) p e = absurd (false≢true e)

pub at_err : {T E P : Type 0} (r : Result T E) → OnErr r P → is_ok r ≡ false → P
at_err (Ok x) p e = absurd (true≢false e)
at_err (Err d) p e = p

-- a front of a part is a front of the whole
pub front_of_first : (old new : Option (List ℕ)) (first second : List ℕ)
    → AppendsFront old new first
    → AppendsFront old new (first ++ second)
front_of_first old new first second h = (h.0, h.1 ++ second, ap (λ (t : List ℕ). t ++ second) h.2 ∙ append_assoc h.0 h.1 second, h.3)

pub front_of_second : (old mid new : Option (List ℕ)) (first second : List ℕ)
    → Appends old mid first
    → AppendsFront mid new second
    → AppendsFront old new (first ++ second)
front_of_second old mid new first second begun h = (
  first ++ h.0,
  h.1,
  ap (λ (t : List ℕ). first ++ t) h.2 ∙ sym (append_assoc first h.0 h.1),
  Appends-trans old mid new first h.0 begun h.3,
)

-- a line was written, or a prefix of it if the writer failed
pub tells : {E : Type 0} (old new : Option (List ℕ)) (failed : Bool) (line : List ℕ) (written : Result (Unit {0}) E)
    → OnOk written (Appends old new line)
    → OnErr written (AppendsFront old new line)
    → OnErr written (failed ≡ true)
    → WritesLine old new failed line
tells old new failed line (Ok done) whole front up = record {
  front = (line, [], sym (append-nil line), whole);
  whole = λ _. whole;
}
tells old new failed line (Err fault) whole front up = record {
  front = front;
  whole = λ down. absurd (false≢true (sym down ∙ up));
}
