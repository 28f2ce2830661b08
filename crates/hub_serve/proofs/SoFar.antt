-- Proves what holds of the connections served so far.
use Rattle.std.proofs.Common.{◌≡◌, ℕ, Bool, ◌+◌, ◌≤◌, suc, true, List, [], ◌∷◌, ◌++◌, length, Option, refl, sym}
use Rattle.std.proofs.Common.{ap, ◌∙◌, subst, inl, inr, append_assoc, arith, Result, Ok, Err}
use Rattle.std.specs.Prelude.{max, fold, is_err, IsTrue, ◌<◌, false}
use Rattle.std.specs.List.{AllByRecursion}
use Rattle.std.specs.Io.KnownBytes.{Appends}
use Rattle.std.proofs.KnownBytes.{Appends-nil, Appends-trans}
use Rattle.std.proofs.lemmas.Bool.{true≢false, false≢true}
use Rattle.std.proofs.lemmas.List.{append-nil, length_push}
use Rattle.edi_base.specs.Buffer.{AppendsFront, Flags}
use Rattle.http_messages.specs.Response.{Writes}
use Rattle.hub_requests.specs.declared.reply.Reply.{Reply}
use Rattle.hub_requests.specs.declared.request.Input.{Input}
use Rattle.hub_parties.specs.Rows.{RegisterRows}
use Rattle.hub_serve.specs.Connections.{Coming, KnownConnections, TakesFirst}
use Rattle.hub_serve.specs.Line.{ending_status, line_of}
use Rattle.hub_serve.specs.Output.{WrittenWhole}
use Rattle.hub_serve.specs.Serve.{Connection, IsServed, Passes, ServesConnections, StopsEarly, ends_in, greatest, inputs, lines_from}
use Rattle.hub_serve.specs.Serve.{moments_in, replies, sent_in}
use Rattle.hub_serve.proofs.Passing.{adds_still, are_first, passes_more, passes_none, takes_both, takes_still}

pub record ServedSoFar (Runs : List Input → List Reply → Type 0) (Stopped : List Connection → Type 0) (register : RegisterRows)
    (known rest : KnownConnections) (old new : Option (List ℕ)) (failed after : Bool) (number status : ℕ) : Type 0 where
  pub served : List Connection
  pub passed : Passes known rest served
  pub each : AllByRecursion (IsServed register) served
  pub ran : Runs (inputs served) (replies served)
  pub at_once : Stopped served
  pub counted : length served ≡ number
  pub written : WrittenWhole old new failed after (lines_from 1 served)
  pub status_is : status ≡ greatest served

-- one more connection
all_more : (P : Connection → Type 0) (served : List Connection) (one : Connection) → AllByRecursion P served → P one
    → AllByRecursion P (served ++ one ∷ [])
all_more P [] one all is = (is, tt)
all_more P (first ∷ served) one all is = (all.0, all_more P served one all.1 is)

lines_more : (number : ℕ) (served : List Connection) (one : Connection)
    → lines_from number served ++ line_of (number + length served) one.ending ≡ lines_from number (served ++ one ∷ [])
lines_more number [] one =
    let here : number + 0 ≡ number = omega arith in
    ap (λ (n : ℕ). line_of n one.ending) here ∙ sym (append-nil (line_of number one.ending))
lines_more number (first ∷ served) one =
    let next : number + suc (length served) ≡ (number + 1) + length served = omega arith in
    append_assoc (line_of number first.ending) (lines_from (number + 1) served) (line_of (number + suc (length served)) one.ending)
    ∙ ap (λ (t : List ℕ). line_of number first.ending ++ t)
    (ap (λ (n : ℕ). lines_from (number + 1) served ++ line_of n one.ending) next ∙ lines_more (number + 1) served one)

greatest_more : (status : ℕ) (served : List Connection) (one : Connection)
    → max (fold (λ status one. max status (ending_status one.ending)) status served) (ending_status one.ending)
    ≡ fold (λ status one. max status (ending_status one.ending)) status (served ++ one ∷ [])
greatest_more status [] one = refl
greatest_more status (first ∷ served) one = greatest_more (max status (ending_status first.ending)) served one

-- no connection was served
pub so_far_none : {Runs : List Input → List Reply → Type 0} {Stopped : List Connection → Type 0} {register : RegisterRows}
    {known : KnownConnections}
    {old : Option (List ℕ)} {failed : Bool}
    → Runs [] []
    → Stopped []
    → ServedSoFar Runs Stopped register known known old old failed failed 0 0
so_far_none {known = known} {old = old} ran at_once = record {
  served = [];
  passed = passes_none known;
  each = tt;
  ran = ran;
  at_once = at_once;
  counted = refl;
  written = record { bytes = Appends-nil old; flag = refl };
  status_is = refl;
}

-- what was printed of a line
printed : {E : Type 0} (old new : Option (List ℕ)) (failed after : Bool) (text : List ℕ) (r : Result (Unit {0}) E)
    → Writes r old new text
    → Flags r failed after
    → is_err r ≡ false
    → WrittenWhole old new failed after text
printed old new failed after text (Ok done) bytes flag e = record { bytes = bytes; flag = flag }
printed old new failed after text (Err fault) bytes flag e = absurd (true≢false e)

broken : {E : Type 0} (old new : Option (List ℕ)) (failed after : Bool) (text : List ℕ) (r : Result (Unit {0}) E)
    → Writes r old new text
    → Flags r failed after
    → is_err r ≡ true
    → AppendsFront old new text × IsTrue after
broken old new failed after text (Ok done) bytes flag e = absurd (false≢true e)
broken old new failed after text (Err fault) bytes flag e = (bytes, flag)

-- no more connections were served after these
stops_behind : (Over Unknown : Type 0) (coming between rest : Coming) (sent : List (Option (List ℕ)))
    → TakesFirst coming between sent
    → StopsEarly Over Unknown between rest []
    → StopsEarly Over Unknown coming rest sent
stops_behind Over Unknown coming between rest sent first (inl over) =
    inl (
      over.0,
      subst (λ (xs : List (Option (List ℕ))). TakesFirst coming rest xs) (append-nil sent)
          (takes_both coming between rest sent [] first over.1),
    )
stops_behind Over Unknown coming between rest sent first (inr one) =
    inr (one.0, (one.1.0, takes_both coming between rest sent (one.1.0 ∷ []) first one.1.1))

module _ {register : RegisterRows} {known : KnownConnections} {old : Option (List ℕ)} {failed : Bool}
    {Runs : List Input → List Reply → Type 0} {Stopped : List Connection → Type 0} {rest : KnownConnections} {number status : ℕ} where
  -- all connections were served
  pub whole : {Going Over Unknown : Type 0} {Broke : List Connection → Type 0} {count : ℕ} {new : Option (List ℕ)} {after : Bool}
      → ServedSoFar Runs Stopped register known rest old new failed after number status
      → Going
      → number ≡ count
      → ServesConnections Runs Stopped register known rest Going Over Unknown Broke count old new failed after status
  whole s going all = record {
    served = s.served;
    first = are_first known.coming rest.coming (sent_in s.served) s.passed.clients;
    timed = are_first known.moments rest.moments (moments_in s.served) s.passed.moments;
    ended_so = s.passed.closed;
    each = s.each;
    ran = s.ran;
    at_once = s.at_once;
    ended =
        inl (record {
          passed = s.passed;
          going = going;
          counted = s.counted ∙ all;
          written = s.written;
          status_is = s.status_is;
        });
  }

  -- no more can be served
  pub cut_short : {Going Over Unknown : Type 0} {Broke : List Connection → Type 0} {count : ℕ} {new : Option (List ℕ)} {after : Bool}
      {After : List Input → List Reply → Type 0} {Later : List Connection → Type 0} {later : KnownConnections}
      (s : ServedSoFar Runs Stopped register known rest old new failed after number status)
      → later.closed ≡ rest.closed
      → later.moments ≡ rest.moments
      → StopsEarly Over Unknown rest.coming later.coming []
      → number < count
      → After (inputs s.served) (replies s.served)
      → Later s.served
      → ServesConnections After Later register known later Going Over Unknown Broke count old new failed after 3
  cut_short {Over = Over} {Unknown = Unknown} {count = count} {later = later} s still moments stopped fewer ran at_once = record {
    served = s.served;
    first = are_first known.coming rest.coming (sent_in s.served) s.passed.clients;
    timed = are_first known.moments rest.moments (moments_in s.served) s.passed.moments;
    ended_so = adds_still known.closed rest.closed later.closed (ends_in s.served) s.passed.closed still;
    each = s.each;
    ran = ran;
    at_once = at_once;
    ended =
        inr (inl (record {
          stopped = stops_behind Over Unknown known.coming rest.coming later.coming (sent_in s.served) s.passed.clients stopped;
          moments = takes_still known.moments rest.moments later.moments (moments_in s.served) s.passed.moments moments;
          fewer = subst (λ (n : ℕ). n < count) (sym s.counted) fewer;
          written = s.written;
          status_is = refl;
        }));
  }

  -- what was printed, up to the line of one more connection
  written_more : {E : Type 0} {between new : Option (List ℕ)} {middle after : Bool} {next : ℕ}
      (s : ServedSoFar Runs Stopped register known rest old between failed middle number status) (one : Connection)
      → next ≡ number + 1
      → (line : Result (Unit {0}) E)
      → Writes line between new (line_of next one.ending)
      → Flags line middle after
      → is_err line ≡ false
      → WrittenWhole old new failed after (lines_from 1 (s.served ++ one ∷ []))
  written_more {between = between} {new = new} {middle = middle} {after = after} {next = next} s one next_is line bytes flag right =
      let counted = s.counted in
      let at : 1 + length s.served ≡ next = omega (arith, counted, next_is) in
      let written = printed between new middle after (line_of next one.ending) line bytes flag right in record {
        bytes =
            subst (λ (t : List ℕ). Appends old new t)
            (ap (λ (n : ℕ). lines_from 1 s.served ++ line_of n one.ending) (sym at) ∙ lines_more 1 s.served one)
            (Appends-trans old between new (lines_from 1 s.served) (line_of next one.ending) s.written.bytes written.bytes);
        flag = written.flag ∙ s.written.flag;
      }

  -- one more connection, with what was printed of its line
  module _ {E : Type 0} {After : List Input → List Reply → Type 0} {Later : List Connection → Type 0} {later : KnownConnections}
      {between new : Option (List ℕ)}
      {middle after : Bool} {next : ℕ} (s : ServedSoFar Runs Stopped register known rest old between failed middle number status)
      (one : Connection) (passes : Passes rest later (one ∷ [])) (is : IsServed register one)
      (ran : After (inputs (s.served ++ one ∷ [])) (replies (s.served ++ one ∷ [])))
      (at_once : Later (s.served ++ one ∷ [])) (next_is : next ≡ number + 1)
      (line : Result (Unit {0}) E) (bytes : Writes line between new (line_of next one.ending)) (flag : Flags line middle after) where
    pub so_far_more : is_err line ≡ false
        → {greater : ℕ} (given : ℕ) → greater ≡ max status given
        → given ≡ ending_status one.ending
        → ServedSoFar After Later register known later old new failed after next greater
    so_far_more whole given greater_is given_is = record {
      served = s.served ++ one ∷ [];
      passed = passes_more known rest later s.served one s.passed passes;
      each = all_more (IsServed register) s.served one s.each is;
      ran = ran;
      at_once = at_once;
      counted = length_push s.served one ∙ ap (λ (n : ℕ). n + 1) s.counted ∙ sym next_is;
      written = written_more s one next_is line bytes flag whole;
      status_is =
          greater_is
          ∙ ap (λ (n : ℕ). max status n) given_is
          ∙ ap (λ (n : ℕ). max n (ending_status one.ending)) s.status_is
          ∙ greatest_more 0 s.served one;
    }

    -- the store failed for good during the connection, and serving was to stop then
    pub gave_up : {Going Over Unknown : Type 0} {Broke : List Connection → Type 0} {count : ℕ} → is_err line ≡ false → Going
        → number < count
        → Broke (s.served ++ one ∷ [])
        → ServesConnections After Later register known later Going Over Unknown Broke count old new failed after 3
    gave_up {count = count} whole going fewer broke =
        let counted = s.counted in
        let more = length_push s.served one in
        let within : length (s.served ++ one ∷ []) ≤ count = omega (arith, counted, more, fewer) in
        let passed = passes_more known rest later s.served one s.passed passes in record {
          served = s.served ++ one ∷ [];
          first = are_first known.coming later.coming (sent_in (s.served ++ one ∷ [])) passed.clients;
          timed = are_first known.moments later.moments (moments_in (s.served ++ one ∷ [])) passed.moments;
          ended_so = passed.closed;
          each = all_more (IsServed register) s.served one s.each is;
          ran = ran;
          at_once = at_once;
          ended =
              inr (inr (inr (record {
                passed = passed;
                going = going;
                counted = within;
                written = written_more s one next_is line bytes flag whole;
                broke = broke;
                status_is = refl;
              })));
        }

    pub lost : {Going Over Unknown : Type 0} {Broke : List Connection → Type 0} {count : ℕ} → is_err line ≡ true → Going → number < count
        → ServesConnections After Later register known later Going Over Unknown Broke count old new failed after 3
    lost {count = count} failed going fewer =
        let counted = s.counted in
        let more = length_push s.served one in
        let last : next ≡ length (s.served ++ one ∷ []) = omega (arith, counted, more, next_is) in
        let within : length (s.served ++ one ∷ []) ≤ count = omega (arith, counted, more, fewer) in
        let cut = broken between new middle after (line_of next one.ending) line bytes flag failed in
        let passed = passes_more known rest later s.served one s.passed passes in record {
          served = s.served ++ one ∷ [];
          first = are_first known.coming later.coming (sent_in (s.served ++ one ∷ [])) passed.clients;
          timed = are_first known.moments later.moments (moments_in (s.served ++ one ∷ [])) passed.moments;
          ended_so = passed.closed;
          each = all_more (IsServed register) s.served one s.each is;
          ran = ran;
          at_once = at_once;
          ended =
              inr (inr (inl (record {
                passed = passed;
                going = going;
                earlier = s.served;
                last = one;
                are = refl;
                counted = within;
                broken = record {
                  between = between;
                  written = s.written.bytes;
                  front = subst (λ (n : ℕ). AppendsFront between new (line_of n one.ending)) last cut.0;
                  flag = cut.1;
                };
                status_is = refl;
              })));
        }
