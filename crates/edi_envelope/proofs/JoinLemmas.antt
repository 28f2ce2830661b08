-- An interchange is its header, its messages joined, and its trailer.
use Rattle.std.proofs.Common.{◌≡◌, ◌+◌, ◌-◌, ◌≤◌, List, [], ◌∷◌, ◌++◌, length, drop, map, true, false, refl, sym, ap, ◌∙◌}
use Rattle.std.proofs.Common.{arith, codes, append-nil, length-append, inl, inr}
use Rattle.std.specs.List.{flat_map, AllByRecursion, list_any, list_all}
use Rattle.std.proofs.lemmas.Bool.{and_parts, or_parts, or_from, cases_Bool, not-true, not-false, true≢false, false≢true, eqb-true}
use Rattle.std.proofs.lemmas.List.{take-append-drop, drop_more, drop_all, get_or_at, take_at, nil_from_length}
use Rattle.edi_segments.specs.declared.segment.Segment.{Segment}
use Rattle.edi_segments.specs.declared.segment.Tokens.{Tokens}
use Rattle.edi_envelope.specs.declared.interchange.Interchange.{Interchange}
use Rattle.edi_envelope.specs.declared.interchange.RawMessage.{RawMessage}
use Rattle.edi_envelope.specs.declared.fault.EnvelopeFault.TheVariants.{InterchangeFrame, MessageFrame}
use Rattle.edi_envelope.specs.Segments.{is_unh, is_unt, no_segment, first_segment, last_segment, between}
use Rattle.edi_envelope.specs.Header.{head_of}
use Rattle.edi_envelope.specs.Blocks.{before_message, blocks}
use Rattle.edi_envelope.specs.Message.{is_frame, is_block, message_of}
use Rattle.edi_envelope.specs.Interchange.{is_framed, is_row_of_messages, messages_in, contents_of}
use Rattle.edi_envelope.specs.Law.{HasNoEnvelopeFault, IsMessage, IsInterchange}
use Rattle.edi_envelope.proofs.FrameLemmas.{framed_unb, framed_unz, framed_length, front_is, other_tag}

-- the first segment, what stands between, and the last
pub frame_split : (xs : List Segment) → 2 ≤ length xs → xs ≡ first_segment xs ∷ between xs ++ last_segment xs ∷ []
frame_split xs h =
    let end : drop (length xs - 1) xs ≡ last_segment xs ∷ [] =
    drop_more xs (length xs - 1) no_segment (omega arith)
    ∙ ap (λ rest. last_segment xs ∷ rest) (drop_all (length xs - 1 + 1) xs (omega arith)) in
    sym (take-append-drop (length xs - 1) xs)
    ∙ ap (λ front. front ++ drop (length xs - 1) xs) (front_is xs h)
    ∙ ap (λ rest. first_segment xs ∷ between xs ++ rest) end

-- what is cut joins again
joined : (xs : List Segment) → xs ≡ before_message xs ++ flat_map (λ block. block) (blocks xs)
joined [] = refl
joined (x ∷ xs) =
    elim (cases_Bool (is_unh x)) [
      | inl is ↦ rw is (ap (λ rest. x ∷ rest) (joined xs))
      | inr not_ ↦ rw not_ (ap (λ rest. x ∷ rest) (joined xs))
    ]

segments_of-message_of : (bs : List (List Segment))
    → flat_map (λ (message : RawMessage). message.segments) (map message_of bs) ≡ flat_map (λ block. block) bs
segments_of-message_of [] = refl
segments_of-message_of (b ∷ bs) = ap (λ rest. b ++ rest) (segments_of-message_of bs)

all_messages : (bs : List (List Segment)) → list_all is_block bs ≡ true → AllByRecursion IsMessage (map message_of bs)
all_messages [] h = tt
all_messages (b ∷ bs) h =
    let parts = and_parts (is_block b) (list_all is_block bs) h in
    (record { block = parts.0; fields = refl }, all_messages bs parts.1)

-- the contents of segments without a fault are an interchange of them
pub IsInterchange-contents : (tokens : Tokens) → HasNoEnvelopeFault tokens.segments → IsInterchange tokens (contents_of tokens)
unfolding contents_of is_row_of_messages
IsInterchange-contents tokens h =
    let xs = tokens.segments in
    let framed = not-false (is_framed xs) (h InterchangeFrame) in
    let row = and_parts _ _ (not-false (is_row_of_messages xs) (h MessageFrame)) in
    let none = nil_from_length (before_message (between xs)) (eqb-true _ _ row.0) in
    let middle : between xs ≡ flat_map (λ (message : RawMessage). message.segments) (map message_of (messages_in xs)) =
    joined (between xs)
    ∙ ap (λ front. front ++ flat_map (λ block. block) (messages_in xs)) none
    ∙ sym (segments_of-message_of (messages_in xs)) in
    record {
      unb = first_segment xs;
      unz = last_segment xs;
      segments = frame_split xs (framed_length xs framed) ∙ ap (λ m. first_segment xs ∷ m ++ last_segment xs ∷ []) middle;
      begins = framed_unb xs framed;
      ends = framed_unz xs framed;
      decimal = refl;
      head = refl;
      messages = all_messages (messages_in xs) row.1;
    }

pub last_of : (u : Segment) (mid : List Segment) (z : Segment) → last_segment (u ∷ mid ++ z ∷ []) ≡ z
last_of u mid z = get_or_at (u ∷ mid) z [] no_segment (length (u ∷ mid ++ z ∷ []) - 1) (omega (arith, length-append mid (z ∷ [])))

pub between_of : (u : Segment) (mid : List Segment) (z : Segment) → between (u ∷ mid ++ z ∷ []) ≡ mid
between_of u mid z = ap (drop 1) (take_at (u ∷ mid) (z ∷ []) (length (u ∷ mid ++ z ∷ []) - 1) (omega (arith, length-append mid (z ∷ []))))

-- without UNH
before_message-append : (ys zs : List Segment) → list_any is_unh ys ≡ false → before_message (ys ++ zs) ≡ ys ++ before_message zs
before_message-append [] zs h = refl
before_message-append (y ∷ ys) zs h =
    let parts = or_parts (is_unh y) (list_any is_unh ys) h in
    rw parts.0 (ap (λ rest. y ∷ rest) (before_message-append ys zs parts.1))

blocks-append : (ys zs : List Segment) → list_any is_unh ys ≡ false → blocks (ys ++ zs) ≡ blocks zs
blocks-append [] zs h = refl
blocks-append (y ∷ ys) zs h = let parts = or_parts (is_unh y) (list_any is_unh ys) h in rw parts.0 (blocks-append ys zs parts.1)

no_unh : (ys : List Segment) (z : Segment) → list_any is_frame ys ≡ false → is_unt z ≡ true → list_any is_unh (ys ++ z ∷ []) ≡ false
no_unh [] z h t = or_from (is_unh z) false (other_tag z.tag (codes "UNT") (codes "UNH") refl t) refl
no_unh (y ∷ ys) z h t =
    let parts = or_parts (is_frame y) (list_any is_frame ys) h in
    let tags = or_parts _ _ (or_parts _ _ (or_parts _ _ parts.0).0).0 in
    or_from (is_unh y) (list_any is_unh (ys ++ z ∷ [])) tags.0 (no_unh ys z parts.1 t)

-- a block before others is cut off as it is
one_block : (u : Segment) (ys zs : List Segment)
    → is_unh u ≡ true
    → list_any is_unh ys ≡ false
    → before_message zs ≡ []
    → blocks ((u ∷ ys) ++ zs) ≡ (u ∷ ys) ∷ blocks zs
one_block u ys zs is none start =
    rw (is, before_message-append ys zs none, start, blocks-append ys zs none, append-nil ys) refl

block_length : (b : List Segment) → is_unh (first_segment b) ≡ true → is_unt (last_segment b) ≡ true → 2 ≤ length b
block_length [] u t = absurd (false≢true u)
block_length (x ∷ []) u t = absurd (true≢false (sym t ∙ other_tag x.tag (codes "UNH") (codes "UNT") refl u))
block_length (x ∷ y ∷ ys) u t = omega arith

-- the same of a message
block_before : (b zs : List Segment)
    → is_block b ≡ true
    → before_message zs ≡ []
    → (blocks (b ++ zs) ≡ b ∷ blocks zs) × (before_message (b ++ zs) ≡ [])
block_before b zs h start =
    let parts = and_parts _ _ h in
    let ends = and_parts _ _ parts.0 in
    let split = frame_split b (block_length b ends.0 ends.1) in
    let none = no_unh (between b) (last_segment b) (not-true _ parts.1) ends.1 in
    let u = first_segment b in
    let ys = between b ++ last_segment b ∷ [] in (
      ap (λ block. blocks (block ++ zs)) split ∙ one_block u ys zs ends.0 none start ∙ ap (λ block. block ∷ blocks zs) (sym split),
      ap (λ block. before_message (block ++ zs)) split ∙ rw ends.0 refl,
    )

-- messages that are joined are cut again as they were
cut_again : (ms : List RawMessage)
    → AllByRecursion IsMessage ms
    → (blocks (flat_map (λ (m : RawMessage). m.segments) ms) ≡ map (λ (m : RawMessage). m.segments) ms)
    × (before_message (flat_map (λ (m : RawMessage). m.segments) ms) ≡ [])
cut_again [] h = (refl, refl)
cut_again (m ∷ ms) h =
    let rest = cut_again ms h.1 in
    let here = block_before m.segments (flat_map (λ (m : RawMessage). m.segments) ms) h.0.block rest.1 in
    (here.0 ∙ ap (λ bs. m.segments ∷ bs) rest.0, here.1)

same_messages : (ms : List RawMessage) → AllByRecursion IsMessage ms → ms ≡ map message_of (map (λ (m : RawMessage). m.segments) ms)
same_messages [] h = refl
same_messages (m ∷ ms) h = ap (λ first. first ∷ ms) h.0.fields ∙ ap (λ rest. message_of m.segments ∷ rest) (same_messages ms h.1)

pub same_interchange : (i j : Interchange) → i.decimal ≡ j.decimal → i.head ≡ j.head → i.messages ≡ j.messages → i ≡ j
same_interchange i j d h m = λ k. record { decimal = d k; head = h k; messages = m k }

-- an interchange of the segments is what their contents are
pub contents-from_IsInterchange : (tokens : Tokens) (i : Interchange) → IsInterchange tokens i → i ≡ contents_of tokens
unfolding contents_of
contents-from_IsInterchange tokens i h =
    let mid = flat_map (λ (m : RawMessage). m.segments) i.messages in
    let middle : between tokens.segments ≡ mid = ap between h.segments ∙ between_of h.unb mid h.unz in
    same_interchange i (contents_of tokens) h.decimal
    (h.head ∙ ap (λ segments. head_of (first_segment segments)) (sym h.segments))
    (same_messages i.messages h.messages ∙ ap (map message_of) (sym (ap blocks middle ∙ (cut_again i.messages h.messages).0)))
