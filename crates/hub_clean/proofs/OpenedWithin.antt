-- Shows that what accompanies a message of an opened upload is within its limits.
use Rattle.std.proofs.Common.{◌≡◌, ℕ, ◌-◌, ◌≤◌, ◌==◌, Bool, true, false, cond, List, [], ◌∷◌, map, take}
use Rattle.std.proofs.Common.{length, Option, Some, None, Result, Ok, Err, refl, sym, ap, subst, arith}
use Rattle.std.specs.List.{AllByRecursion, list_all}
use Rattle.std.proofs.lemmas.Bool.{not-false, and_parts, eqb-true}
use Rattle.edi_base.specs.Limits.{is_count, number_of}
use Rattle.edi_base.proofs.Numbers.{count_below}
use Rattle.edi_segments.specs.declared.fault.TokenFault.{TokenFault}
use Rattle.edi_segments.specs.declared.segment.Segment.{Segment}
use Rattle.edi_segments.specs.declared.segment.Service.{Service}
use Rattle.edi_segments.specs.declared.segment.Tokens.{Tokens}
use Rattle.edi_segments.specs.Reading.{tokens_of}
use Rattle.edi_segments.specs.Service.{service_of, are_right, is_decimal}
use Rattle.edi_segments.specs.Spelling.{Advice, Advises, Spells, tags}
use Rattle.edi_tokens.proofs.Exact.{spelled_iff_read}
use Rattle.edi_envelope.specs.declared.fault.EnvelopeFault.{EnvelopeFault}
use Rattle.edi_envelope.specs.declared.fault.EnvelopeFault.TheVariants as envelope
use Rattle.edi_envelope.specs.declared.interchange.Interchange.{Interchange}
use Rattle.edi_envelope.specs.declared.interchange.RawMessage.{RawMessage}
use Rattle.edi_envelope.specs.Blocks.{before_message, blocks}
use Rattle.edi_envelope.specs.Header.{is_valid_header}
use Rattle.edi_envelope.specs.Interchange.{messages_in, contents_of, interchange_of}
use Rattle.edi_envelope.specs.Limits.{is_reference}
use Rattle.edi_envelope.specs.Message.{reference_of, is_within_limits, is_counted, message_of}
use Rattle.edi_envelope.specs.Opened.{checked_as, read_as, opened}
use Rattle.edi_envelope.specs.Segments.{is_unh, component, first_segment, last_segment, between}
use Rattle.edi_envelope.proofs.LawLemmas.{contents_law}
use Rattle.edi_moment.specs.Moment.{last_moment}
use Rattle.hub_tables.specs.Sets.{Has}
use Rattle.hub_tables.proofs.Members.{all_of}
use Rattle.hub_law.specs.Messages.{incoming}
use Rattle.hub_clean.specs.Clean.{WithinMessage}
use Rattle.hub_clean.proofs.Bytes.{ByteSegment, all_take, all_drop, all_renumbered, text_written, spelled_bytes}

-- What a text that was opened was read as.

checked_is : (r : Result Interchange EnvelopeFault) (i : Interchange) → checked_as r ≡ Ok i → r ≡ Ok i
checked_is (Ok j) i h = let same : j ≡ i = cc in ap Ok same
checked_is (Err fault) i h = absurd cc

opened_as : (r : Result Tokens TokenFault) (i : Interchange)
    → read_as r ≡ Ok i
    → (tokens : Tokens) × (r ≡ Ok tokens) × (interchange_of tokens ≡ Ok i)
opened_as (Ok tokens) i h = (tokens, refl, checked_is (interchange_of tokens) i h)
opened_as (Err fault) i h = absurd cc

spelled : (bytes : List ℕ) (tokens : Tokens) → tokens_of bytes ≡ Ok tokens → Spells bytes tokens.service tokens.segments
spelled bytes tokens h = (spelled_iff_read bytes tokens.service tokens.segments).1 h

-- The decimal mark.

made : (right : Bool) (one s : Service) → cond right (Some one) None ≡ Some s → (right ≡ true) × (one ≡ s)
made true one s h = (refl, cc)
made false one s h = absurd cc

mark_of : (six : List ℕ) (s : Service) → service_of six ≡ Some s → is_decimal s.decimal ≡ true
mark_of (c ∷ e ∷ d ∷ r ∷ reserved ∷ t ∷ []) s h =
    let both = made (are_right c e d r reserved t) _ s h in
    let second = (and_parts _ _ both.0).1 in
    let first = (and_parts _ _ second).0 in
    subst (λ (s : Service). is_decimal s.decimal ≡ true) both.1 (and_parts (is_decimal d) _ first).0
mark_of _ s h = absurd cc

decimal_is : (advice : Option Advice) (s : Service) (tags : List (List ℕ)) → Advises advice s tags → is_decimal s.decimal ≡ true
decimal_is None s tags h = subst (λ (s : Service). is_decimal s.decimal ≡ true) (sym h.0) refl
decimal_is (Some advice) s tags h = mark_of advice.six s h.1

-- Messages.

-- reference, number of segments, bytes
MessageRead : RawMessage → Type 0
MessageRead message =
    (is_reference message.reference ≡ true) × (length message.segments ≤ 999_999) × AllByRecursion ByteSegment message.segments

front_bytes : (segments : List Segment) → AllByRecursion ByteSegment segments → AllByRecursion ByteSegment (before_message segments)
front_bytes [] all = tt
front_bytes (segment ∷ rest) all =
    elim (is_unh segment) as (λ v. AllByRecursion ByteSegment (cond v [] (segment ∷ before_message rest)))
    [ true ↦ tt | false ↦ (all.0, front_bytes rest all.1) ]

block_bytes : (segments : List Segment)
    → AllByRecursion ByteSegment segments
    → AllByRecursion (AllByRecursion ByteSegment) (blocks segments)
block_bytes [] all = tt
block_bytes (segment ∷ rest) all =
    elim (is_unh segment) as (λ v. AllByRecursion (AllByRecursion ByteSegment)
    (cond v ((segment ∷ before_message rest) ∷ blocks rest) (blocks rest)))
    [ true ↦ ((all.0, front_bytes rest all.1), block_bytes rest all.1) | false ↦ block_bytes rest all.1 ]

few_segments : (block : List Segment) → is_counted block ≡ true → length block ≤ 999_999
few_segments block h =
    let count = component (last_segment block) 0 0 in
    let parts = and_parts (is_count count) (number_of count == length block) h in
    let few = count_below count parts.0 in
    let same : number_of count ≡ length block = eqb-true _ _ parts.1 in
    omega (arith, few, same)

referred : (block : List Segment) → is_within_limits block ≡ true → is_reference (reference_of block) ≡ true
referred block h =
    let six = (and_parts _ _ h).0 in
    let five = (and_parts _ _ six).0 in
    let four = (and_parts _ _ five).0 in
    let three = (and_parts _ _ four).0 in
    let two = (and_parts _ _ three).0 in
    (and_parts (is_reference (reference_of block)) _ two).0

messages_are : (parts : List (List Segment))
    → list_all is_within_limits parts ≡ true
    → list_all is_counted parts ≡ true
    → AllByRecursion (AllByRecursion ByteSegment) parts
    → AllByRecursion MessageRead (map message_of parts)
unfolding MessageRead
messages_are [] limits counted bytes = tt
messages_are (block ∷ rest) limits counted bytes =
    let one = and_parts (is_within_limits block) (list_all is_within_limits rest) limits in
    let many = and_parts (is_counted block) (list_all is_counted rest) counted in
    ((referred block one.0, few_segments block many.0, bytes.0), messages_are rest one.1 many.1 bytes.1)

between_bytes : (segments : List Segment) → AllByRecursion ByteSegment segments → AllByRecursion ByteSegment (between segments)
between_bytes segments all =
    all_drop ByteSegment 1 (take (length segments - 1) segments) (all_take ByteSegment (length segments - 1) segments all)

header_reference : (unb : Segment) → is_valid_header unb ≡ true → is_reference (component unb 4 0) ≡ true
header_reference unb h = (and_parts _ (is_reference (component unb 4 0)) (and_parts _ _ h).0).1

-- an opened interchange
record OpenedWithin (i : Interchange) : Type 0 where
  control : is_reference i.head.reference ≡ true
  decimal : is_decimal i.decimal ≡ true
  messages : AllByRecursion MessageRead i.messages

contents_within : (bytes : List ℕ) (tokens : Tokens) (i : Interchange)
    → Spells bytes tokens.service tokens.segments
    → interchange_of tokens ≡ Ok i
    → OpenedWithin i
unfolding contents_of
contents_within bytes tokens i spells h =
    let law = contents_law tokens i h in
    let segments = tokens.segments in
    let all = spelled_bytes bytes tokens.service segments spells in
    subst OpenedWithin (sym law.1) (record {
      control = header_reference (first_segment segments) (not-false _ (law.0 envelope.InterchangeHeader));
      decimal = decimal_is spells.whole.advice tokens.service (tags segments) spells.whole.advises;
      messages = messages_are (messages_in segments) (not-false _ (law.0 envelope.MessageHeader))
          (not-false _ (law.0 envelope.SegmentCount)) (block_bytes (between segments) (between_bytes segments all));
    })

pub opened_within : (bytes : List ℕ) (i : Interchange) (message : RawMessage) (moment : ℕ)
    → opened bytes ≡ Ok i
    → Has i.messages message
    → moment ≤ last_moment
    → WithinMessage message (incoming moment i message)
unfolding MessageRead
opened_within bytes i message moment h there early =
    let read = opened_as (tokens_of bytes) i h in
    let within = contents_within bytes read.0 i (spelled bytes read.0 read.1) read.2 in
    let one = all_of MessageRead i.messages within.messages message there in
    record {
      incoming = record {
        control = within.control;
        message = one.0;
        content = text_written message.segments one.2;
        moment = early;
        decimal = within.decimal;
      };
      segments = one.1;
      body = text_written _ (all_renumbered message.segments one.2);
    }
