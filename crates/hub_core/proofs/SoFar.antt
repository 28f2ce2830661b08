-- Proves what the messages of an upload do, one after another.
use Rattle.std.proofs.Common.{◌≡◌, ℕ, suc, Bool, true, false, ◌+◌, ◌<◌, ◌||◌, List, [], ◌∷◌, ◌++◌, map, length, take}
use Rattle.std.proofs.Common.{get_or, Ok, refl, sym, ap, subst, ◌∙◌, arith, append_assoc, length-append}
use Rattle.std.proofs.Common.{add-one, zero}
use Rattle.std.specs.Prelude.{nat_lt, if◌then◌else◌}
use Rattle.std.specs.List.{list_any}
use Rattle.std.proofs.lemmas.List.Folds.{list_any-append}
use Rattle.edi_envelope.specs.declared.interchange.Interchange.{Interchange}
use Rattle.edi_envelope.specs.declared.interchange.RawMessage.{RawMessage}
use Rattle.hub_tables.specs.Tables.{Tables}
use Rattle.hub_law.specs.Messages.{incoming, messages_at}
use Rattle.hub_law.specs.Mark.{Whole, StoppedAfter}
use Rattle.hub_law.specs.Replies.{message_lines, interchange_line, told_words, whole_reply, cut_reply, stopped, stopped_line}
use Rattle.hub_law.specs.Requests.{uploaded, replied_by}
use Rattle.hub_requests.specs.declared.reply.Outcome.TheVariants.{Done, Stopped}
use Rattle.hub_requests.specs.declared.reply.Reply.{Reply}
use Rattle.std.proofs.lemmas.Bool.Decides.{nat_tests}
use Rattle.std.proofs.Math.Bool.{or-false}
use Rattle.hub_law.specs.Told.{Told, Act, is_refused, in_row}
use Rattle.hub_law.specs.Widths.{line}
use Rattle.hub_core.specs.Steps.{OneMore}
use Rattle.hub_core.specs.Uploads.{DoneSoFar}
use Rattle.hub_rules.specs.declared.incoming.IncomingMessage.{IncomingMessage}

abbrev pub SentMessage : Type 0
SentMessage = RawMessage × IncomingMessage

abbrev pub sent_at : ℕ → Interchange → RawMessage → SentMessage
sent_at moment interchange message = (message, incoming moment interchange message)

in_row_more : {X : Type 0} (step : X → Act) (xs : List X) (x : X) (t : Tables)
    → in_row step (xs ++ x ∷ []) t ≡ ((in_row step xs t).0 ++ (step x (in_row step xs t).1).0 ∷ [], (step x (in_row step xs t).1).1)
in_row_more step [] x t = refl
in_row_more step (y ∷ xs) x t = ap (λ (r : List Told × Tables). ((step y t).0 ∷ r.0, r.1)) (in_row_more step xs x (step y t).1)

none_left : (messages : List RawMessage) → message_lines messages [] ≡ []
none_left [] = refl
none_left (m ∷ messages) = refl

nothing_behind : (xs : List ℕ) → xs ++ [] ≡ xs
nothing_behind [] = refl
nothing_behind (x ∷ xs) = ap (λ ys. x ∷ ys) (nothing_behind xs)

lines_more : (messages : List RawMessage) (told : List Told) (message : RawMessage) (one : Told)
    → length told < length messages
    → message ≡ get_or messages (length told) message
    → message_lines messages (told ++ one ∷ []) ≡ message_lines messages told ++ line (message.reference ∷ message.kind ∷ told_words one)
lines_more [] told message one below is = absurd (omega arith)
lines_more (m ∷ messages) [] message one below is =
    ap (λ xs. line (m.reference ∷ m.kind ∷ told_words one) ++ xs) (none_left messages)
    ∙ nothing_behind (line (m.reference ∷ m.kind ∷ told_words one))
    ∙ ap (λ (x : RawMessage). line (x.reference ∷ x.kind ∷ told_words one)) (sym is)
lines_more (m ∷ messages) (t ∷ told) message one below is =
    ap (λ xs. line (m.reference ∷ m.kind ∷ told_words t) ++ xs) (lines_more messages told message one (omega arith) is)
    ∙ sym (append_assoc (line (m.reference ∷ m.kind ∷ told_words t)) (message_lines messages told)
    (line (message.reference ∷ message.kind ∷ told_words one)))

map_at_suc : (f : RawMessage → SentMessage) (messages : List RawMessage) (i : ℕ) (message : RawMessage)
    → i < length messages
    → message ≡ get_or messages i message
    → take (suc i) (map f messages) ≡ take i (map f messages) ++ f message ∷ []
map_at_suc f [] i message below is = absurd (omega arith)
map_at_suc f (m ∷ messages) zero message below is = ap (λ (x : RawMessage). f x ∷ []) (sym is)
map_at_suc f (m ∷ messages) (suc i) message below is = ap (λ xs. f m ∷ xs) (map_at_suc f messages i message (omega arith) is)

map_at : (f : RawMessage → SentMessage) (messages : List RawMessage) (i : ℕ) (message : RawMessage)
    → i < length messages
    → message ≡ get_or messages i message
    → take (i + 1) (map f messages) ≡ take i (map f messages) ++ f message ∷ []
map_at f messages i message below is = rw add-one (map_at_suc f messages i message below is)

pub so_far_more :
    (deliver : SentMessage → Act) (moment : ℕ) (interchange : Interchange) (t before now : Tables) (count : ℕ) (refused : Bool)
    (body : List ℕ) (message : RawMessage) (one : Told)
    → count < length interchange.messages → message ≡ get_or interchange.messages count message
    → DoneSoFar deliver moment interchange t before count refused body → deliver (sent_at moment interchange message) before ≡ (one, now)
    → DoneSoFar deliver moment interchange t now (count + 1) (refused || is_refused one)
    (body ++ line (message.reference ∷ message.kind ∷ told_words one))
so_far_more deliver moment interchange t before now count refused body message one below is far e = record {
  told = far.told ++ one ∷ [];
  counts = length-append far.told (one ∷ []) ∙ ap (λ n. n + 1) far.counts;
  is = ap (λ xs. in_row deliver xs t) (map_at (sent_at moment interchange) interchange.messages count message below is)
      ∙ in_row_more deliver (take count (messages_at moment interchange)) (sent_at moment interchange message) t
      ∙ ap (λ (r : List Told × Tables). (
        r.0 ++ (deliver (sent_at moment interchange message) r.1).0 ∷ [],
        (deliver (sent_at moment interchange message) r.1).1,
      )) far.is
      ∙ ap (λ (r : Told × Tables). (far.told ++ r.0 ∷ [], r.1)) e;
  refusals =
      ap (λ b. b || is_refused one) far.refusals
      ∙ sym (list_any-append is_refused far.told (one ∷ [])
      ∙ ap (λ b. list_any is_refused far.told || b) (or-false (is_refused one)));
  lines =
      let told_below : length far.told < length interchange.messages = rw far.counts below in
      let told_is : message ≡ get_or interchange.messages (length far.told) message = rw far.counts is in
      ap (λ xs. xs ++ line (message.reference ∷ message.kind ∷ told_words one)) far.lines
      ∙ append_assoc (interchange_line interchange) (message_lines interchange.messages far.told)
      (line (message.reference ∷ message.kind ∷ told_words one))
      ∙ sym (ap (λ xs. interchange_line interchange ++ xs) (lines_more interchange.messages far.told message one told_below told_is));
}

pub so_far_none : (deliver : SentMessage → Act) (moment : ℕ) (interchange : Interchange) (t : Tables) (body : List ℕ)
    → body ≡ interchange_line interchange
    → DoneSoFar deliver moment interchange t t 0 false body
so_far_none deliver moment interchange t body e = record {
  told = [];
  counts = refl;
  is = refl;
  refusals = refl;
  lines =
      e
      ∙ sym (ap (λ xs. interchange_line interchange ++ xs) (none_left interchange.messages)
      ∙ nothing_behind (interchange_line interchange));
}

pub uploaded_stopped : (deliver : SentMessage → Act) (moment : ℕ) (interchange : Interchange) (t now : Tables) (count : ℕ)
    (refused : Bool) (body : List ℕ)
    → count < length interchange.messages
    → DoneSoFar deliver moment interchange t now count refused body
    → uploaded deliver moment (StoppedAfter count) (Ok interchange) t
    ≡ (record { outcome = Stopped; refused = refused; body = body ++ stopped_line }, now)
uploaded_stopped deliver moment interchange t now count refused body below far =
    (let among : nat_lt count (length interchange.messages) ≡ true = grind (arith, nat_tests) in
    let cut : Bool → Reply × Tables = λ more. replied_by (λ told. if more then cut_reply interchange told else stopped)
    (in_row deliver (take (if more then count else 0) (messages_at moment interchange)) t) in
    ap cut among)
    ∙ ap (replied_by (cut_reply interchange)) far.is
    ∙ (λ i. (record { outcome = Stopped; refused = sym far.refusals i; body = sym far.lines i ++ stopped_line }, now))

pub uploaded_whole : (deliver : SentMessage → Act) (moment : ℕ) (interchange : Interchange) (t now : Tables) (refused : Bool)
    (body : List ℕ)
    → DoneSoFar deliver moment interchange t now (length interchange.messages) refused body
    → uploaded deliver moment Whole (Ok interchange) t ≡ (record { outcome = Done; refused = refused; body = body }, now)
uploaded_whole deliver moment interchange t now refused body far =
    ap (replied_by (whole_reply interchange)) far.is
    ∙ (λ i. (record { outcome = Done; refused = sym far.refusals i; body = sym far.lines i }, now))

one_more_by : (deliver : SentMessage → Act) (moment : ℕ) (interchange : Interchange) (t now : Tables) (count : ℕ) (refused : Bool)
    (body : List ℕ) (below : Bool)
    → nat_lt (count + 1) (length interchange.messages) ≡ below
    → count < length interchange.messages
    → DoneSoFar deliver moment interchange t now (count + 1) refused body
    → OneMore (length interchange.messages) (λ mark t. uploaded deliver moment mark (Ok interchange) t) t (StoppedAfter count) now
one_more_by deliver moment interchange t now count refused body true e below far =
    let among : nat_lt count (length interchange.messages) ≡ true = grind (arith, nat_tests) in
    let before : count + 1 < length interchange.messages = grind (arith, nat_tests) in
    record {
      more = StoppedAfter (count + 1);
      one = ap (λ b. if b then count + 1 else 0) e ∙ sym (ap (λ b. (if b then count else 0) + 1) among);
      is = ap (λ (r : Reply × Tables). r.1) (uploaded_stopped deliver moment interchange t now (count + 1) refused body before far);
    }
one_more_by deliver moment interchange t now count refused body false e below far =
    let among : nat_lt count (length interchange.messages) ≡ true = grind (arith, nat_tests) in
    let last : count + 1 ≡ length interchange.messages = grind (arith, nat_tests) in
    record {
      more = Whole;
      one = sym last ∙ sym (ap (λ b. (if b then count else 0) + 1) among);
      is = ap (λ (r : Reply × Tables). r.1) (uploaded_whole deliver moment interchange t now refused body
          (subst (λ n. DoneSoFar deliver moment interchange t now n refused body) last far));
    }

one_more : (deliver : SentMessage → Act) (moment : ℕ) (interchange : Interchange) (t now : Tables) (count : ℕ) (refused : Bool)
    (body : List ℕ)
    → count < length interchange.messages
    → DoneSoFar deliver moment interchange t now (count + 1) refused body
    → OneMore (length interchange.messages) (λ mark t. uploaded deliver moment mark (Ok interchange) t) t (StoppedAfter count) now
one_more deliver moment interchange t now count refused body below far =
    one_more_by deliver moment interchange t now count refused body (nat_lt (count + 1) (length interchange.messages)) refl below far

-- and the act of the next message, with its result
pub so_far_then :
    (deliver : SentMessage → Act) (moment : ℕ) (interchange : Interchange) (t before : Tables) (count : ℕ) (refused : Bool)
    (body : List ℕ) (message : RawMessage)
    → count < length interchange.messages
    → message ≡ get_or interchange.messages count message
    → DoneSoFar deliver moment interchange t before count refused body
    → OneMore (length interchange.messages) (λ mark t. uploaded deliver moment mark (Ok interchange) t) t
    (StoppedAfter count) (deliver (sent_at moment interchange message) before).1
so_far_then deliver moment interchange t before count refused body message below is far =
    let act : Told × Tables = deliver (sent_at moment interchange message) before in
    one_more deliver moment interchange t act.1 count (refused || is_refused act.0)
    (body ++ line (message.reference ∷ message.kind ∷ told_words act.0)) below
    (so_far_more deliver moment interchange t before act.1 count refused body message act.0 below is far refl)
