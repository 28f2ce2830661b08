-- What is written of the mail texts, one more segment at a time.
use Rattle.std.proofs.Common.{◌≡◌, ◌≢◌, ◌<◌, ◌+◌, ℕ, suc, Bool, true, false, List, [], ◌∷◌, ◌++◌, length, map, drop}
use Rattle.std.proofs.Common.{refl, sym, ap, subst, ◌∙◌, arith, append_assoc, append-nil, codes}
use Rattle.std.specs.List.{list_any}
use Rattle.std.specs.Fmt.{decimal}
use Rattle.std.proofs.lemmas.Bool.{true≢false, false≢true}
use Rattle.std.proofs.lemmas.List.{map_push, length-map, length-append}
use Rattle.std.proofs.lemmas.List.Concat.{flat_map-append}
use Rattle.edi_segments.specs.declared.segment.Segment.{Segment}
use Rattle.edi_tokens.specs.Text.{text, una, segment_text}
use Rattle.edi_tokens.specs.Appending.{with_component}
use Rattle.edi_envelope.specs.declared.interchange.RawMessage.{RawMessage}
use Rattle.edi_envelope.specs.declared.check.Place.TheVariants as place
use Rattle.edi_envelope.specs.Segments.{is_unz, is_unh, is_unt, last_segment}
use Rattle.edi_envelope.specs.Blocks.{blocks}
use Rattle.edi_envelope.specs.Message.{message_of, is_frame}
use Rattle.edi_moment.specs.Moment.{date_text, time_text}
use Rattle.edi_envelope.specs.Mail.{renumbered, mail_text}
use Rattle.edi_envelope.specs.Check.{Placed}
use Rattle.edi_envelope.specs.Gathered.{IsLast}
use Rattle.edi_envelope.proofs.FrameLemmas.{other_tag}
use Rattle.edi_envelope.proofs.JoinLemmas.{between_of}
use Rattle.edi_envelope.proofs.CheckLemmas.{last_at}
use Rattle.edi_envelope.proofs.RowLemmas.{frame_tags}
use Rattle.edi_envelope.proofs.GatherLemmas.{drop_one, joined, not_last, last_more, GoesOnInMessage}
use Rattle.edi_relay.specs.declared.relay.RelayWords.{RelayWords}
use Rattle.edi_relay.specs.declared.mails.Mails.{Mails}
use Rattle.edi_relay.specs.Relay.{mail_texts}
use Rattle.edi_relay.specs.Mails.{header_text, front_text, trailer_text, begun_text, IsOpen, KeepsMails, HasAllMails, EndsMails}
use Rattle.edi_relay.specs.Mails.{WritesMails}

-- ---- mail texts

-- one more at the end
mail_texts-push : (words : RelayWords) (mark n : ℕ) (ms : List RawMessage) (m : RawMessage)
    → mail_texts words mark n (ms ++ m ∷ [])
    ≡ mail_texts words mark n ms ++ mail_text words.hub words.owner words.moment mark (n + length ms) m
mail_texts-push words mark n [] m =
    let here : n ≡ n + 0 = omega arith in
    append-nil (mail_text words.hub words.owner words.moment mark n m)
    ∙ ap (λ (k : ℕ). mail_text words.hub words.owner words.moment mark k m) here
mail_texts-push words mark n (x ∷ ms) m =
    let first = mail_text words.hub words.owner words.moment mark n x in
    let there : n + 1 + length ms ≡ n + suc (length ms) = omega arith in
    ap (λ (l : List ℕ). first ++ l) (mail_texts-push words mark (n + 1) ms m)
    ∙ sym (append_assoc first (mail_texts words mark (n + 1) ms)
    (mail_text words.hub words.owner words.moment mark (n + 1 + length ms) m))
    ∙ ap (λ (k : ℕ). (first ++ mail_texts words mark (n + 1) ms) ++ mail_text words.hub words.owner words.moment mark k m) there

regroup : (u a hub b owner date c time p number q body z : List ℕ)
    → u ++ (a ++ hub ++ b ++ owner ++ b ++ date ++ c ++ time ++ p ++ number ++ q ++ body ++ z ++ number ++ q)
    ≡ (u ++ ((a ++ hub ++ b ++ owner ++ b ++ date ++ c ++ time ++ p) ++ (number ++ q))) ++ (body ++ (z ++ (number ++ q)))
regroup u a hub b owner date c time p number q body z = simp append_assoc

-- its front, its message and its trailer
mail_text-parts : (words : RelayWords) (mark number : ℕ) (message : RawMessage)
    → mail_text words.hub words.owner words.moment mark number message
    ≡ front_text (header_text words) mark number ++ (text (map renumbered message.segments) ++ trailer_text number)
mail_text-parts words mark number message =
    regroup (una mark) (codes "UNB+UNOC:3+") words.hub (codes ":14+") words.owner (date_text words.moment) (codes ":")
    (time_text words.moment) (codes "+") (decimal number) (codes "'") (text (map renumbered message.segments)) (codes "UNZ+1+")

begun_some : (header : List ℕ) (mark number : ℕ) (last : List Segment) → last ≢ []
    → begun_text header mark number last ≡ front_text header mark number ++ text (map renumbered last)
begun_some header mark number [] some = absurd (some refl)
begun_some header mark number (u ∷ rest) some = refl

text_push : (l : List Segment) (s : Segment)
    → text (map renumbered (l ++ s ∷ [])) ≡ text (map renumbered l) ++ segment_text (renumbered s)
text_push l s =
    ap text (map_push renumbered l s) ∙ flat_map-append segment_text (map renumbered l) (renumbered s ∷ [])
    ∙ ap (λ (t : List ℕ). text (map renumbered l) ++ t) (append-nil (segment_text (renumbered s)))

pub push_some : (last : List Segment) (s : Segment) → last ++ s ∷ [] ≢ []
push_some [] s = λ e. cc
push_some (u ∷ rest) s = λ e. cc

begun_push : (header : List ℕ) (mark number : ℕ) (last : List Segment) (s : Segment) → last ≢ []
    → begun_text header mark number (last ++ s ∷ []) ≡ begun_text header mark number last ++ segment_text (renumbered s)
begun_push header mark number last s some =
    begun_some header mark number (last ++ s ∷ []) (push_some last s)
    ∙ ap (λ (t : List ℕ). front_text header mark number ++ t) (text_push last s)
    ∙ sym (append_assoc (front_text header mark number) (text (map renumbered last)) (segment_text (renumbered s)))
    ∙ ap (λ (t : List ℕ). t ++ segment_text (renumbered s)) (sym (begun_some header mark number last some))

-- ---- the reference in each segment of a frame

pub renumbered_unh : (s : Segment) → is_unh s ≡ true → renumbered s ≡ with_component s 0 (codes "1")
renumbered_unh s h = rw h refl

pub renumbered_unt : (s : Segment) → is_unt s ≡ true → renumbered s ≡ with_component s 1 (codes "1")
renumbered_unt s h = rw (other_tag s.tag (codes "UNT") (codes "UNH") refl h, h) refl

pub renumbered_inside : (s : Segment) → is_frame s ≡ false → renumbered s ≡ s
renumbered_inside s h = let tags = frame_tags s h in rw (tags.0, tags.1) refl

-- ---- the end of a message

ended_at : (words : RelayWords) (mark : ℕ) (lent : List Segment) (g : Mails) (z : Segment) → HasAllMails words mark lent g → 0 < length lent
    → EndsMails words mark (lent ++ z ∷ []) g
ended_at words mark [] g z w some = absurd (omega arith)
ended_at words mark (u ∷ m) g z w some =
    w.out ∙ ap (λ (l : List Segment). mail_texts words mark words.number (map message_of (blocks l))) (sym (between_of u m z))

open_none : (b : Bool) (last : List Segment) → IsOpen b last → b ≡ false → last ≡ []
open_none true last h e = absurd (true≢false e)
open_none false last h e = h

open_some : (b : Bool) (last : List Segment) → IsOpen b last → b ≡ true → last ≢ []
open_some true last h e = h
open_some false last h e = absurd (false≢true e)

some_open : (b : Bool) (last : List Segment) → IsOpen b last → last ≢ [] → b ≡ true
some_open true last h some = refl
some_open false last h some = absurd (some h)

module _ (words : RelayWords) (mark : ℕ) (lent : List Segment) where
  pub ended_none : (g : Mails) → KeepsMails words mark lent g → g.begun ≡ false → HasAllMails words mark lent g
  ended_none g k e =
      let none = open_none g.begun k.last k.begun e in
      let all : drop 1 lent ≡ k.before = k.split ∙ ap (λ (l : List Segment). k.before ++ l) none ∙ append-nil k.before in
      let nothing : begun_text (header_text words) mark g.number k.last ≡ [] = ap (begun_text (header_text words) mark g.number) none in
      record {
        header = k.header;
        begun = e;
        number = k.number ∙ ap (λ (l : List Segment). words.number + length (blocks l)) (sym all);
        out =
            k.out
            ∙ ap (λ (t : List ℕ). mail_texts words mark words.number (map message_of (blocks k.before)) ++ t) nothing
            ∙ append-nil (mail_texts words mark words.number (map message_of (blocks k.before)))
            ∙ ap (λ (l : List Segment). mail_texts words mark words.number (map message_of (blocks l))) (sym all);
      }

  closing : (m f t z : List ℕ) → (m ++ (f ++ t)) ++ z ≡ m ++ (f ++ (t ++ z))
  closing m f t z = simp append_assoc

  pub ended_more : (g new : Mails) → KeepsMails words mark lent g → g.begun ≡ true
      → new.header.items ≡ g.header.items
      → new.begun ≡ false
      → new.number ≡ g.number + 1
      → new.out.items ≡ g.out.items ++ trailer_text g.number
      → HasAllMails words mark lent new
  ended_more g new k e header begun number out =
      let some = open_some g.begun k.last k.begun e in
      let all : blocks (drop 1 lent) ≡ blocks k.before ++ k.last ∷ [] = joined (drop 1 lent) k.before k.last k.split k.is_last some in
      let count : length (blocks (drop 1 lent)) ≡ length (blocks k.before) + 1 =
      ap (λ (l : List (List Segment)). length l) all ∙ length-append (blocks k.before) (k.last ∷ []) in
      let messages = map message_of (blocks k.before) in
      let mails = mail_texts words mark words.number messages in
      let front = front_text (header_text words) mark g.number in
      let body = text (map renumbered k.last) in
      let at : words.number + length messages ≡ g.number =
      ap (λ (n : ℕ). words.number + n) (length-map (blocks k.before) message_of) ∙ sym k.number in
      let mail : mail_texts words mark words.number (map message_of (blocks (drop 1 lent)))
      ≡ mails ++ (front ++ (body ++ trailer_text g.number)) =
      ap (λ (l : List (List Segment)). mail_texts words mark words.number (map message_of l)) all
      ∙ ap (mail_texts words mark words.number) (map_push message_of (blocks k.before) k.last)
      ∙ mail_texts-push words mark words.number messages (message_of k.last)
      ∙ ap (λ (n : ℕ). mails ++ mail_text words.hub words.owner words.moment mark n (message_of k.last)) at
      ∙ ap (λ (t : List ℕ). mails ++ t) (mail_text-parts words mark g.number (message_of k.last)) in
      record {
        header = header ∙ k.header;
        begun = begun;
        number = omega (arith, number, k.number, count);
        out =
            out ∙ ap (λ (t : List ℕ). t ++ trailer_text g.number) k.out
            ∙ ap (λ (t : List ℕ). (mails ++ t) ++ trailer_text g.number) (begun_some (header_text words) mark g.number k.last some)
            ∙ closing mails front body (trailer_text g.number) ∙ sym mail;
      }

  going_on : (s : Segment) (g : Mails) → is_unz s ≡ false → KeepsMails words mark (lent ++ s ∷ []) g
      → WritesMails words mark (lent ++ s ∷ []) g
  going_on s g z k = record { going = λ _. k; ended = λ e. absurd (true≢false (sym e ∙ not_last lent s z)) }

  pub unh_written : (g new : Mails) (s : Segment) → HasAllMails words mark lent g → Placed place.MessageHeader lent s
      → new.header.items ≡ g.header.items
      → new.begun ≡ true
      → new.number ≡ g.number
      → new.out.items ≡ (g.out.items ++ front_text g.header.items mark g.number) ++ segment_text (with_component s 0 (codes "1"))
      → WritesMails words mark (lent ++ s ∷ []) new
  unh_written g new s w at header begun number out =
      let mails = mail_texts words mark words.number (map message_of (blocks (drop 1 lent))) in
      let front = front_text (header_text words) mark new.number in
      let same : g.out.items ++ front_text g.header.items mark g.number ≡ mails ++ front =
      ap (λ (t : List ℕ). t ++ front_text g.header.items mark g.number) w.out
      ∙ ap (λ (h : List ℕ). mails ++ front_text h mark g.number) w.header
      ∙ ap (λ (n : ℕ). mails ++ front_text (header_text words) mark n) (sym number) in
      let unh : segment_text (with_component s 0 (codes "1")) ≡ text (map renumbered (s ∷ [])) =
      ap segment_text (sym (renumbered_unh s at.1)) ∙ sym (append-nil (segment_text (renumbered s))) in
      going_on s new (other_tag s.tag (codes "UNH") (codes "UNZ") refl at.1)
      (record {
        header = header ∙ w.header;
        before = drop 1 lent;
        last = s ∷ [];
        split = drop_one lent s at.0.0;
        is_last = (at.1, refl);
        begun = subst (λ (b : Bool). IsOpen b (s ∷ [])) (sym begun) (λ e. cc);
        number = number ∙ w.number;
        out =
            out ∙ ap (λ (t : List ℕ). t ++ segment_text (with_component s 0 (codes "1"))) same
            ∙ ap (λ (t : List ℕ). (mails ++ front) ++ t) unh ∙ append_assoc mails front (text (map renumbered (s ∷ [])));
      })

  last_some : (g : Mails) (s : Segment) (k : KeepsMails words mark lent g) → GoesOnInMessage lent s → k.last ≢ []
  last_some g s k goes =
      λ none.
      let empty : k.before ≡ [] = subst (IsLast k.before) none k.is_last in
      let all : drop 1 lent ≡ [] = k.split ∙ ap (λ (l : List Segment). k.before ++ l) none ∙ append-nil k.before ∙ empty in
      false≢true (ap (list_any is_unh) (sym all) ∙ goes.begun.0)

  pub more_written : (g new : Mails) (s : Segment) → WritesMails words mark lent g → GoesOnInMessage lent s
      → new.header.items ≡ g.header.items
      → new.begun ≡ g.begun
      → new.number ≡ g.number
      → new.out.items ≡ g.out.items ++ segment_text (renumbered s)
      → WritesMails words mark (lent ++ s ∷ []) new
  more_written g new s writes goes header begun number out =
      let k = writes.going goes.going.1 in
      let some = last_some g s k goes in
      let mails = mail_texts words mark words.number (map message_of (blocks k.before)) in
      let texts = begun_text (header_text words) mark g.number k.last in
      going_on s new goes.not_z
      (record {
        header = header ∙ k.header;
        before = k.before;
        last = k.last ++ s ∷ [];
        split =
            drop_one lent s goes.going.0 ∙ ap (λ (l : List Segment). l ++ s ∷ []) k.split
            ∙ append_assoc k.before k.last (s ∷ []);
        is_last = last_more k.before k.last s k.is_last (ap (list_any is_unh) (sym k.split) ∙ goes.begun.0) goes.not_h;
        begun =
            subst (λ (b : Bool). IsOpen b (k.last ++ s ∷ [])) (sym (begun ∙ some_open g.begun k.last k.begun some))
            (push_some k.last s);
        number = number ∙ k.number;
        out =
            out ∙ ap (λ (t : List ℕ). t ++ segment_text (renumbered s)) k.out
            ∙ append_assoc mails texts (segment_text (renumbered s))
            ∙ ap (λ (t : List ℕ). mails ++ t) (sym (begun_push (header_text words) mark g.number k.last s some))
            ∙ ap (λ (n : ℕ). mails ++ begun_text (header_text words) mark n (k.last ++ s ∷ [])) (sym number);
      })

  pub trailer_written : (g : Mails) (z : Segment) → HasAllMails words mark lent g → Placed place.Trailer lent z
      → WritesMails words mark (lent ++ z ∷ []) g
  trailer_written g z w at =
      let last : is_unz (last_segment (lent ++ z ∷ [])) ≡ true = ap is_unz (last_at lent z) ∙ at.1 in
      record { going = λ e. absurd (true≢false (sym last ∙ e)); ended = λ _. ended_at words mark lent g z w at.0.0 }

-- ---- the beginning

kept_first : (words : RelayWords) (mark : ℕ) (s : Segment) (g : Mails) → KeepsMails words mark [] g → KeepsMails words mark (s ∷ []) g
kept_first words mark s g k = record {
  header = k.header;
  before = k.before;
  last = k.last;
  split = k.split;
  is_last = k.is_last;
  begun = k.begun;
  number = k.number;
  out = k.out;
}

pub header_written : (words : RelayWords) (mark : ℕ) (lent : List Segment) (g : Mails) (s : Segment)
    → WritesMails words mark lent g → Placed place.Header lent s → WritesMails words mark (lent ++ s ∷ []) g
header_written words mark lent g s writes at =
    let k = subst (λ (l : List Segment). KeepsMails words mark l g) at.0 (writes.going (ap (λ l. is_unz (last_segment l)) at.0)) in
    subst (λ (l : List Segment). WritesMails words mark (l ++ s ∷ []) g) (sym at.0)
    (going_on words mark [] s g (other_tag s.tag (codes "UNB") (codes "UNZ") refl at.1) (kept_first words mark s g k))

pub nothing_written : (words : RelayWords) (mark : ℕ) (g : Mails)
    → g.header.items ≡ header_text words
    → g.begun ≡ false
    → g.number ≡ words.number
    → g.out.items ≡ []
    → WritesMails words mark [] g
nothing_written words mark g header begun number out = record {
  going =
      λ _.
      record {
        header = header;
        before = [];
        last = [];
        split = refl;
        is_last = refl;
        begun = subst (λ (b : Bool). IsOpen b []) (sym begun) refl;
        number = omega (arith, number);
        out = out;
      };
  ended = λ e. absurd (false≢true e);
}
