-- What has been read and lent, one step after another.
use Rattle.std.proofs.Common.{◌≡◌, ℕ, ◌+◌, ◌-◌, ◌<◌, ◌≤◌, Bool, true, false, List, [], ◌++◌, length, take, drop, Option, Some, None}
use Rattle.std.proofs.Common.{min, zero, suc, Result, Ok, Err, inl, inr, refl, sym, ap, subst, ◌∙◌, append_assoc, arith}
use Rattle.std.specs.Prelude.{◌⊎◌, nat_lt, if◌then◌else◌}
use Rattle.std.proofs.lemmas.List.{append-nil, take-append-drop, take-append-le, take_all, take_at}
use Rattle.std.proofs.lemmas.List.{drop_at, length-append, length-drop, length-take, nil_from_length}
use Rattle.std.proofs.lemmas.Bool.{le-ltb, lt-ltb, ltb-true, ltb-false}
use Rattle.std.specs.Io.KnownBytes.{Consumes, IsAtEnd}
use Rattle.edi_tokens.specs.declared.lender.Lender.{Lender}
use Rattle.edi_tokens.specs.declared.lender.Tail.{Tail}
use Rattle.edi_tokens.specs.declared.lender.Tail.TheVariants.{More, Within, End, Long, Failed}
use Rattle.edi_segments.specs.declared.machine.Machine.{Machine}
use Rattle.edi_segments.specs.declared.segment.Segment.{Segment}
use Rattle.edi_segments.specs.declared.fault.TokenFault.{TokenFault}
use Rattle.edi_segments.specs.declared.fault.TokenFault.TheVariants.{TooLong, ServiceString, Byte, Cut, Tag, LongSegment, Read, Memory}
use Rattle.edi_segments.specs.Spelling.{text_limit}
use Rattle.edi_segments.specs.Reading.{Reading, BytePlace, Outside, InService, InTag, InData, Released}
use Rattle.edi_segments.specs.Reading.{start, run, finish, finish_at, tokens_of, ◌>>=◌}
use Rattle.edi_segments.specs.Machine.{reading_of, after}
use Rattle.edi_tokens.specs.Piece.{FillsWith}
use Rattle.edi_tokens.specs.Lender.{HasLeft, Came, GoesOn, Fed, FitsSome, Took, TellsRefill, FillsSome, MayRead, TakesOf, IsOfText}
use Rattle.edi_tokens.specs.Lender.{HasCause}
use Rattle.edi_segments.specs.declared.segment.Tokens.{Tokens}
use Rattle.std.proofs.KnownBytes.{Consumes-nil, Consumes-trans}
use Rattle.edi_segments.proofs.Runs.{run-append}
use Rattle.edi_segments.proofs.Pieces.{run_on, take_sum}
use Rattle.edi_tokens.proofs.Lent.{came, run_lent, run_lent_fails}

within_limit : (tail : Tail) (known : Option (List ℕ)) (left : List ℕ) (room count : ℕ) → GoesOn tail known left room count
    → count ≤ text_limit
within_limit More known left room count g = omega (arith, g.1, g.2)
within_limit Within known left room count g = omega (arith, g.1)
within_limit End known left room count g = g.1
within_limit Long known left room count g = omega (arith, g.1)
within_limit (Failed fault) known left room count g = absurd g

-- the front of a text that is within the longest one
pub front_within : (limit : ℕ) (xs ys : List ℕ) → length xs ≤ limit → take limit (xs ++ ys) ≡ xs ++ take (limit - length xs) ys
front_within limit xs ys le =
    let sum : limit ≡ length xs + (limit - length xs) = omega arith in
    ap (λ (n : ℕ). take n (xs ++ ys)) sum
    ∙ take_sum (length xs) (limit - length xs) (xs ++ ys)
    ∙ ap (λ l. l ++ take (limit - length xs) (drop (length xs) (xs ++ ys))) (take_at xs ys (length xs) refl)
    ∙ ap (λ l. xs ++ take (limit - length xs) l) (drop_at xs ys (length xs) refl)

-- a text whose front fails
front_fails : (xs ys : List ℕ) (fault : TokenFault) → length xs ≤ text_limit → run start xs ≡ Err fault
    → tokens_of (xs ++ ys) ≡ Err fault
front_fails xs ys fault le fails =
    let more : List ℕ = take (text_limit - length xs) ys in
    let stops : run start (take text_limit (xs ++ ys)) ≡ Err fault =
    ap (run start) (front_within text_limit xs ys le) ∙ run-append start xs more
    ∙ ap (λ (s : Result Reading TokenFault). s >>= λ n. run n more) fails in
    ap (λ (s : Result Reading TokenFault). s >>= λ r. if nat_lt text_limit (length (xs ++ ys)) then Err TooLong else finish r) stops

-- a text that is read through
read_through : (xs : List ℕ) (r : Reading) → length xs ≤ text_limit → run start xs ≡ Ok r → tokens_of xs ≡ finish r
read_through xs r le came =
    let runs : run start (take text_limit xs) ≡ Ok r = ap (run start) (take_all text_limit xs le) ∙ came in
    ap (λ (s : Result Reading TokenFault). s >>= λ r. if nat_lt text_limit (length xs) then Err TooLong else finish r) runs
    ∙ rw (le-ltb text_limit (length xs) le) refl

read_too_long : (xs ys : List ℕ) (r : Reading) → length xs ≡ text_limit → 0 < length ys → run start xs ≡ Ok r
    → tokens_of (xs ++ ys) ≡ Err TooLong
read_too_long xs ys r is more came =
    let runs : run start (take text_limit (xs ++ ys)) ≡ Ok r = ap (run start) (take_at xs ys text_limit is) ∙ came in
    ap (λ (s : Result Reading TokenFault). s >>= λ r. if nat_lt text_limit (length (xs ++ ys)) then Err TooLong else finish r) runs
    ∙ rw (lt-ltb text_limit (length (xs ++ ys)) (omega (arith, length-append xs ys))) refl

-- known bytes that were taken
consumed_known : (left piece : List ℕ) (new : Option (List ℕ)) → Consumes (Some left) new piece
    → (rest : List ℕ) × (new ≡ Some rest) × (left ≡ piece ++ rest)
consumed_known left piece None c = absurd c
consumed_known left piece (Some rest) c = (rest, refl, c)

at_end_known : (new : Option (List ℕ)) (rest : List ℕ) → new ≡ Some rest → IsAtEnd new → rest ≡ []
at_end_known None rest e end = absurd cc
at_end_known (Some xs) rest e end = let same : xs ≡ rest = cc in sym same ∙ end

module _ (known : Option (List ℕ)) (all : List ℕ) (lent : List Segment) (f : Lender) (fed : Fed known all lent f) where
  pub fits : length fed.taken + length f.piece ≤ text_limit
  fits = within_limit f.tail known fed.left f.room (length fed.taken + length f.piece) fed.goes_on

  read_more : (m : Machine) (p : List ℕ) (count : ℕ) (ended : Bool) → count ≤ length f.piece → p ≡ drop count f.piece
      → run (reading_of [] f.machine) (take count f.piece) ≡ Ok (after [] ended m)
      → (all ≡ (fed.taken ++ take count f.piece) ++ (p ++ fed.left))
      × (run start (fed.taken ++ take count f.piece) ≡ Ok (after lent ended m))
      × (length (fed.taken ++ take count f.piece) + length p ≡ length fed.taken + length f.piece)
  read_more m p count ended le rest runs = (
    fed.all_is
        ∙ ap (λ l. fed.taken ++ (l ++ fed.left)) (sym (take-append-drop count f.piece))
        ∙ ap (λ l. fed.taken ++ l) (append_assoc (take count f.piece) (drop count f.piece) fed.left)
        ∙ ap (λ l. fed.taken ++ (take count f.piece ++ (l ++ fed.left))) (sym rest)
        ∙ sym (append_assoc fed.taken (take count f.piece) (p ++ fed.left)),
    run_on start (reading_of lent f.machine) fed.taken (take count f.piece) fed.read_as
        ∙ run_lent lent f.machine m ended (take count f.piece) runs,
    omega (arith, length-append fed.taken (take count f.piece), length-take count f.piece, ap length rest, length-drop count f.piece),
  )

  pub took : (m : Machine) (p : List ℕ) (count : ℕ) (ended : Bool) → count ≤ length f.piece → p ≡ drop count f.piece
      → run (reading_of [] f.machine) (take count f.piece) ≡ Ok (after [] ended m)
      → Took known all lent (Ok ended) (record { machine = m; piece = p; tail = f.tail; room = f.room; ended = f.ended })
  took m p count true le rest runs =
      let more = read_more m p count true le rest runs in
      record {
        taken = fed.taken ++ take count f.piece;
        left = fed.left;
        all_is = more.0;
        read_as = more.1;
        goes_on = subst (λ (n : ℕ). GoesOn f.tail known fed.left f.room n) (sym more.2) fed.goes_on;
      }
  took m p count false le rest runs =
      let more = read_more m p count false le rest runs in
      record {
        taken = fed.taken ++ take count f.piece;
        left = fed.left;
        all_is = more.0;
        read_as = more.1;
        goes_on = subst (λ (n : ℕ). GoesOn f.tail known fed.left f.room n) (sym more.2) fed.goes_on;
      }

  pub took_fault : (fault : TokenFault) → run (reading_of [] f.machine) f.piece ≡ Err fault → tokens_of all ≡ Err fault
  took_fault fault fails =
      let whole : all ≡ (fed.taken ++ f.piece) ++ fed.left = fed.all_is ∙ sym (append_assoc fed.taken f.piece fed.left) in
      ap tokens_of whole
      ∙ front_fails (fed.taken ++ f.piece) fed.left fault (omega (arith, length-append fed.taken f.piece, fits))
      (run_on start (reading_of lent f.machine) fed.taken f.piece fed.read_as ∙ run_lent_fails lent f.machine f.piece fault fails)

  all_taken : f.piece ≡ [] → all ≡ fed.taken ++ fed.left
  all_taken none = fed.all_is ∙ ap (λ l. fed.taken ++ (l ++ fed.left)) none

  pub at_end : f.piece ≡ [] → f.tail ≡ End → tokens_of all ≡ finish (reading_of lent f.machine)
  at_end none tail =
      let goes = subst (λ (t : Tail). GoesOn t known fed.left f.room (length fed.taken + length f.piece)) tail fed.goes_on in
      let whole : all ≡ fed.taken = all_taken none ∙ ap (λ l. fed.taken ++ l) goes.0 ∙ append-nil fed.taken in
      ap tokens_of whole ∙ read_through fed.taken (reading_of lent f.machine) (omega (arith, fits)) fed.read_as

  pub too_long : f.piece ≡ [] → f.tail ≡ Long → tokens_of all ≡ Err TooLong
  too_long none tail =
      let goes = subst (λ (t : Tail). GoesOn t known fed.left f.room (length fed.taken + length f.piece)) tail fed.goes_on in
      ap tokens_of (all_taken none)
      ∙ read_too_long fed.taken fed.left (reading_of lent f.machine) (omega (arith, goes.1, ap length none)) goes.0 fed.read_as

  -- bytes were read, where a byte too many may come
  module _ (none : f.piece ≡ []) (tail : f.tail ≡ More) (after : Option (List ℕ)) (piece : List ℕ) (count : ℕ)
      (fills : FillsWith known after piece f.room count) where
    goes : GoesOn More known fed.left f.room (length fed.taken + length f.piece)
    goes = subst (λ (t : Tail). GoesOn t known fed.left f.room (length fed.taken + length f.piece)) tail fed.goes_on

    behind : (rest : List ℕ) × (after ≡ Some rest) × (fed.left ≡ piece ++ rest)
    behind = consumed_known fed.left piece after (subst (λ (o : Option (List ℕ)). Consumes o after piece) goes.0 fills.consumed)

    whole : all ≡ fed.taken ++ (piece ++ behind.0)
    whole = all_taken none ∙ ap (λ l. fed.taken ++ l) behind.2

    pub filled_more : 0 < f.room - count
        → Fed after all lent (record { machine = f.machine; piece = piece; tail = f.tail; room = f.room - count; ended = false })
    filled_more some = record {
      taken = fed.taken;
      left = behind.0;
      all_is = whole;
      read_as = fed.read_as;
      goes_on =
          subst (λ (t : Tail). GoesOn t after behind.0 (f.room - count) (length fed.taken + length piece)) (sym tail)
          (behind.1, omega (arith, goes.1, ap length none, fills.count_is, fills.within), some);
    }

    pub filled_end : count ≡ 0
        → TellsRefill after all lent (Ok false)
        (record { machine = f.machine; piece = piece; tail = End; room = f.room - count; ended = true })
    filled_end is =
        let end = at_end_known after behind.0 behind.1 (fills.ends is goes.2) in
        let empty : piece ≡ [] = nil_from_length piece (omega (arith, fills.count_is)) in
        let same : all ≡ fed.taken = whole ∙ ap (λ l. fed.taken ++ (l ++ behind.0)) empty
        ∙ ap (λ l. fed.taken ++ l) end ∙ append-nil fed.taken in (
          record {
            taken = fed.taken;
            left = behind.0;
            all_is = whole;
            read_as = fed.read_as;
            goes_on = (end, omega (arith, fits, ap length empty));
          },
          ap tokens_of same ∙ read_through fed.taken (reading_of lent f.machine) (omega (arith, fits)) fed.read_as,
        )

    pub filled_long : (p : List ℕ) → p ≡ take (length piece - 1) piece → 0 < count → f.room - count ≡ 0
        → Fed after all lent (record { machine = f.machine; piece = p; tail = Long; room = f.room - count; ended = false })
    filled_long p front some no_room =
        let last : List ℕ = drop (length piece - 1) piece in
        let split : piece ≡ p ++ last = sym (take-append-drop (length piece - 1) piece) ∙ ap (λ l. l ++ last) (sym front) in
        let long : length last ≡ 1 = omega (arith, length-drop (length piece - 1) piece, fills.count_is) in
        let short : length p ≡ length piece - 1 = omega (arith, ap length front, length-take (length piece - 1) piece) in
        record {
          taken = fed.taken;
          left = last ++ behind.0;
          all_is = whole ∙ ap (λ l. fed.taken ++ (l ++ behind.0)) split ∙ ap (λ l. fed.taken ++ l) (append_assoc p last behind.0);
          read_as = fed.read_as;
          goes_on = (omega (arith, length-append last behind.0), omega (arith, goes.1, ap length none, fills.count_is, fills.within));
        }

  -- bytes were read, where the text ends with the room
  module _ (none : f.piece ≡ []) (tail : f.tail ≡ Within) (after : Option (List ℕ)) (piece : List ℕ) (count : ℕ)
      (fills : FillsWith known after piece f.room count) where
    goes_within : GoesOn Within known fed.left f.room (length fed.taken + length f.piece)
    goes_within =
        subst (λ (t : Tail). GoesOn t known fed.left f.room (length fed.taken + length f.piece)) tail fed.goes_on

    begins : HasLeft known fed.left f.room
    begins = goes_within.0

    after_them : (rest : List ℕ) × (after ≡ Some rest) × (begins.bytes ≡ piece ++ rest)
    after_them =
        consumed_known begins.bytes piece after (subst (λ (o : Option (List ℕ)). Consumes o after piece) begins.known_is fills.consumed)

    left_within : fed.left ≡ piece ++ take (f.room - count) after_them.0
    left_within =
        begins.left_is ∙ ap (take f.room) after_them.2
        ∙ front_within f.room piece after_them.0 (omega (arith, fills.count_is, fills.within))
        ∙ ap (λ n. piece ++ take (f.room - n) after_them.0) fills.count_is

    whole_within : all ≡ fed.taken ++ (piece ++ take (f.room - count) after_them.0)
    whole_within = all_taken none ∙ ap (λ l. fed.taken ++ l) left_within

    pub within_more : 0 < f.room - count
        → Fed after all lent (record { machine = f.machine; piece = piece; tail = f.tail; room = f.room - count; ended = false })
    within_more some = record {
      taken = fed.taken;
      left = take (f.room - count) after_them.0;
      all_is = whole_within;
      read_as = fed.read_as;
      goes_on =
          subst (λ (t : Tail). GoesOn t after (take (f.room - count) after_them.0) (f.room - count) (length fed.taken + length piece))
          (sym tail) (
            record { bytes = after_them.0; known_is = after_them.1; left_is = refl },
            omega (arith, goes_within.1, ap length none, fills.count_is, fills.within),
            some,
          );
    }

    pub within_last : f.room - count ≡ 0
        → Fed after all lent (record { machine = f.machine; piece = piece; tail = End; room = f.room - count; ended = false })
    within_last no_room = record {
      taken = fed.taken;
      left = [];
      all_is = whole_within ∙ ap (λ n. fed.taken ++ (piece ++ take n after_them.0)) no_room;
      read_as = fed.read_as;
      goes_on = (refl, omega (arith, goes_within.1, ap length none, fills.count_is, fills.within));
    }

    pub within_end : count ≡ 0
        → TellsRefill after all lent (Ok false)
        (record { machine = f.machine; piece = piece; tail = End; room = f.room - count; ended = true })
    within_end is =
        let end = at_end_known after after_them.0 after_them.1 (fills.ends is goes_within.2) in
        let empty : piece ≡ [] = nil_from_length piece (omega (arith, fills.count_is)) in
        let gone : take (f.room - count) after_them.0 ≡ [] =
        nil_from_length (take (f.room - count) after_them.0) (omega (arith, length-take (f.room - count) after_them.0, ap length end)) in
        let same : all ≡ fed.taken = whole_within ∙ ap (λ l. fed.taken ++ (l ++ take (f.room - count) after_them.0)) empty
        ∙ ap (λ l. fed.taken ++ l) gone ∙ append-nil fed.taken in (
          record {
            taken = fed.taken;
            left = take (f.room - count) after_them.0;
            all_is = whole_within;
            read_as = fed.read_as;
            goes_on = (gone, omega (arith, fits, ap length empty));
          },
          ap tokens_of same ∙ read_through fed.taken (reading_of lent f.machine) (omega (arith, fits)) fed.read_as,
        )

-- ---- whatever is known of the reader: the bytes that were read are taken for the last ones that it has

last_of : (before after : Option (List ℕ)) (piece : List ℕ) (room count : ℕ) → FillsWith before after piece room count
    → FillsWith (Some (piece ++ [])) (Some []) piece room count
last_of before after piece room count fills =
    record { consumed = refl; count_is = fills.count_is; within = fills.within; ends = λ none some. refl }

module _ (lent : List Segment) (f : Lender) (came : Came lent f) where
  pub took_some : (result : Result Bool TokenFault) (l : Lender)
      → ((known : Option (List ℕ)) (all : List ℕ) (lent : List Segment) → Fed known all lent f → Took known all lent result l)
      → FitsSome lent result l
  took_some (Ok true) l told = record { known = came.known; all = came.all; fed = told came.known came.all lent came.fed }
  took_some (Ok false) l told = record { known = came.known; all = came.all; fed = told came.known came.all lent came.fed }
  took_some (Err fault) l told = λ _. (came.all, told came.known came.all lent came.fed)

  pub some_at_end : f.piece ≡ [] → f.tail ≡ End → FillsSome lent (Ok false) f
  some_at_end none tail = (came, (came.all, at_end came.known came.all lent f came.fed none tail))

  pub some_too_long : f.piece ≡ [] → f.tail ≡ Long → FillsSome lent (Err TooLong) f
  some_too_long none tail = λ _. (came.all, too_long came.known came.all lent f came.fed none tail)

  module _ (none : f.piece ≡ []) (before after : Option (List ℕ)) (piece : List ℕ) (count : ℕ)
      (fills : FillsWith before after piece f.room count) where
    abbrev all_more : List ℕ
    all_more = came.fed.taken ++ (f.piece ++ (piece ++ []))

    abbrev all_within : List ℕ
    all_within = came.fed.taken ++ (f.piece ++ take f.room (piece ++ []))

    fed_more : f.tail ≡ More → Fed (Some (piece ++ [])) all_more lent f
    fed_more tail =
        let goes = subst (λ (t : Tail). GoesOn t came.known came.fed.left f.room
        (length came.fed.taken + length f.piece)) tail came.fed.goes_on in
        record {
          taken = came.fed.taken;
          left = piece ++ [];
          all_is = refl;
          read_as = came.fed.read_as;
          goes_on =
              subst (λ (t : Tail). GoesOn t (Some (piece ++ [])) (piece ++ []) f.room (length came.fed.taken + length f.piece)) (sym tail)
              (refl, goes.1, goes.2);
        }

    fed_within : f.tail ≡ Within → Fed (Some (piece ++ [])) all_within lent f
    fed_within tail =
        let goes = subst (λ (t : Tail). GoesOn t came.known came.fed.left f.room
        (length came.fed.taken + length f.piece)) tail came.fed.goes_on in
        record {
          taken = came.fed.taken;
          left = take f.room (piece ++ []);
          all_is = refl;
          read_as = came.fed.read_as;
          goes_on =
              subst (λ (t : Tail). GoesOn t (Some (piece ++ []))
              (take f.room (piece ++ [])) f.room (length came.fed.taken + length f.piece))
              (sym tail) (record { bytes = piece ++ []; known_is = refl; left_is = refl }, goes.1, goes.2);
        }

    pub some_more : (tail : f.tail ≡ More) → 0 < f.room - count
        → Came lent (record { machine = f.machine; piece = piece; tail = f.tail; room = f.room - count; ended = false })
    some_more tail room = record {
      known = Some [];
      all = all_more;
      fed = filled_more (Some (piece ++ [])) all_more lent f (fed_more tail) none tail (Some []) piece count
          (last_of before after piece f.room count fills) room;
    }

    pub some_end : (tail : f.tail ≡ More) → count ≡ 0
        → FillsSome lent (Ok false) (record { machine = f.machine; piece = piece; tail = End; room = f.room - count; ended = true })
    some_end tail is =
        let filled = filled_end (Some (piece ++ [])) all_more lent f (fed_more tail) none tail (Some []) piece count
        (last_of before after piece f.room count fills) is in
        (record { known = Some []; all = all_more; fed = filled.0 }, (all_more, filled.1))

    pub some_long : (tail : f.tail ≡ More) (p : List ℕ) → p ≡ take (length piece - 1) piece → 0 < count → f.room - count ≡ 0
        → Came lent (record { machine = f.machine; piece = p; tail = Long; room = f.room - count; ended = false })
    some_long tail p front some no_room = record {
      known = Some [];
      all = all_more;
      fed = filled_long (Some (piece ++ [])) all_more lent f (fed_more tail) none tail (Some []) piece count
          (last_of before after piece f.room count fills) p front some no_room;
    }

    pub some_within_more : (tail : f.tail ≡ Within) → 0 < f.room - count
        → Came lent (record { machine = f.machine; piece = piece; tail = f.tail; room = f.room - count; ended = false })
    some_within_more tail room = record {
      known = Some [];
      all = all_within;
      fed = within_more (Some (piece ++ [])) all_within lent f (fed_within tail) none tail (Some []) piece count
          (last_of before after piece f.room count fills) room;
    }

    pub some_within_last : (tail : f.tail ≡ Within) → f.room - count ≡ 0
        → Came lent (record { machine = f.machine; piece = piece; tail = End; room = f.room - count; ended = false })
    some_within_last tail no_room = record {
      known = Some [];
      all = all_within;
      fed = within_last (Some (piece ++ [])) all_within lent f (fed_within tail) none tail (Some []) piece count
          (last_of before after piece f.room count fills) no_room;
    }

    pub some_within_end : (tail : f.tail ≡ Within) → count ≡ 0
        → FillsSome lent (Ok false) (record { machine = f.machine; piece = piece; tail = End; room = f.room - count; ended = true })
    some_within_end tail is =
        let filled = within_end (Some (piece ++ [])) all_within lent f (fed_within tail) none tail (Some []) piece count
        (last_of before after piece f.room count fills) is in
        (record { known = Some []; all = all_within; fed = filled.0 }, (all_within, filled.1))

-- ---- where more may be read, a byte too many may come or the text ends with the room

pub may_read : (tail : Tail) → MayRead tail → (tail ≡ More) ⊎ (tail ≡ Within)
may_read More may = inl refl
may_read Within may = inr refl
may_read End may = absurd may
may_read Long may = absurd may
may_read (Failed fault) may = absurd may

-- ---- a text of a size, whose front was read before

module _ (size n : ℕ) (front left : List ℕ) (is : n ≡ min size (length front)) where
  front_cut : (cut : Bool) → nat_lt size (length front) ≡ cut
      → take size (front ++ left) ≡ take n front ++ take (size - length (take n front)) left
  front_cut true e =
      let short : size < length front = ltb-true size (length front) e in
      let all : n ≡ size = omega (arith, is) in
      let none : size - length (take size front) ≡ 0 = omega (arith, length-take size front) in
      take-append-le size front left (omega arith)
      ∙ sym (ap (λ k. take k front ++ take (size - length (take k front)) left) all
      ∙ ap (λ k. take size front ++ take k left) none ∙ append-nil (take size front))
  front_cut false e =
      let long : length front ≤ size = ltb-false size (length front) e in
      let all : n ≡ length front = omega (arith, is) in
      front_within size front left long
      ∙ sym (ap (λ l. l ++ take (size - length l) left) (take_all n front (omega arith)))

front_of_size : (size n : ℕ) (front left : List ℕ) → n ≡ min size (length front)
    → take size (front ++ left) ≡ take n front ++ take (size - length (take n front)) left
front_of_size size n front left is = front_cut size n front left is (nat_lt size (length front)) refl

goes_within_size : (room : ℕ) (left : List ℕ) (count : ℕ) (tail : Tail) → room + count ≤ text_limit → (room ≡ 0 → tail ≡ End)
    → (0 < room → tail ≡ Within) → GoesOn tail (Some left) (take room left) room count
goes_within_size zero left count tail le last more =
    subst (λ (t : Tail). GoesOn t (Some left) (take 0 left) 0 count) (sym (last refl)) (refl, omega (arith, le))
goes_within_size (suc room) left count tail le last more =
    subst (λ (t : Tail). GoesOn t (Some left) (take (suc room) left) (suc room) count) (sym (more (omega arith)))
    (record { bytes = left; known_is = refl; left_is = refl }, le, omega arith)

pub fed_of_size : (size n : ℕ) (front left p : List ℕ) (m : Machine) (tail : Tail) → size ≤ text_limit → n ≡ min size (length front)
    → reading_of [] m ≡ start → p ≡ take n front
    → (size - length (take n front) ≡ 0 → tail ≡ End) → (0 < size - length (take n front) → tail ≡ Within)
    → Fed (Some left) (take size (front ++ left)) []
    (record { machine = m; piece = p; tail = tail; room = size - length (take n front); ended = false })
fed_of_size size n front left p m tail le is fresh front_is last more = record {
  taken = [];
  left = take (size - length (take n front)) left;
  all_is = front_of_size size n front left is ∙ ap (λ l. l ++ take (size - length (take n front)) left) (sym front_is);
  read_as = ap (λ (r : Reading). came r) (sym fresh);
  goes_on =
      goes_within_size (size - length (take n front)) left (0 + length p) tail
      (omega (arith, le, is, ap length front_is, length-take n front)) last more;
}

-- ---- one call after another

pub takes_none : (a : Option (List ℕ)) (room : ℕ) → TakesOf a a room room
takes_none a room = record { front = []; consumed = Consumes-nil a; counted = omega arith }

pub takes_then : (a b c : Option (List ℕ)) (room between left : ℕ) → TakesOf a b room between → TakesOf b c between left
    → TakesOf a c room left
takes_then a b c room between left first next =
    let one = first.counted in
    let two = next.counted in
    record {
      front = first.front ++ next.front;
      consumed = Consumes-trans a b c first.front next.front first.consumed next.consumed;
      counted = omega (arith, length-append first.front next.front);
    }

pub has_cause : (fault : TokenFault) (old new : Bool) → IsOfText fault → new ≡ old → HasCause fault old new
has_cause TooLong old new text same = same
has_cause ServiceString old new text same = same
has_cause Byte old new text same = same
has_cause Cut old new text same = same
has_cause Tag old new text same = same
has_cause LongSegment old new text same = same
has_cause Read old new text same = absurd text
has_cause Memory old new text same = absurd text

abbrev FinishText : Result Tokens TokenFault → Type 0
FinishText (Ok t) = Unit {0}
FinishText (Err fault) = IsOfText fault

finish_at_text : (r : Reading) (p : BytePlace) → FinishText (finish_at r p)
finish_at_text r (Outside fresh) = tt
finish_at_text r (InService six) = tt
finish_at_text r (InTag fresh tag) = tt
finish_at_text r (InData o) = tt
finish_at_text r (Released o) = tt

pub finish_text : (r : Reading) (fault : TokenFault) → finish r ≡ Err fault → IsOfText fault
finish_text r fault e = subst FinishText e (finish_at_text r r.place)
