-- What is kept of the segments, one more at a time.
use Rattle.std.proofs.Common.{◌≡◌, ◌≢◌, ◌<◌, true, false, ◌⊎◌, inl, inr, List, [], ◌∷◌, ◌++◌, length, map, drop, Some}
use Rattle.std.proofs.Common.{refl, sym, ap, subst, ◌∙◌, arith, append_assoc, append-nil, codes}
use Rattle.std.specs.List.{list_any}
use Rattle.std.proofs.lemmas.Bool.{or_from, true≢false, false≢true}
use Rattle.std.proofs.lemmas.List.{map_push}
use Rattle.std.proofs.lemmas.List.Folds.{list_any-append}
use Rattle.edi_segments.specs.declared.segment.Segment.{Segment}
use Rattle.edi_envelope.specs.declared.gathering.Gathered.{Gathered}
use Rattle.edi_envelope.specs.declared.interchange.RawMessage.{RawMessage}
use Rattle.edi_envelope.specs.declared.check.Place.{Place}
use Rattle.edi_envelope.specs.declared.check.Place.TheVariants as place
use Rattle.edi_envelope.specs.Segments.{is_unz, is_unh, last_segment}
use Rattle.edi_envelope.specs.Header.{head_of}
use Rattle.edi_envelope.specs.Blocks.{blocks}
use Rattle.edi_envelope.specs.Message.{message_of}
use Rattle.edi_envelope.specs.Check.{IsGoingOn, IsBegun, Placed}
use Rattle.edi_envelope.specs.Gathered.{head_in, IsLast, KeepsMessages, HasAllMessages, EndsMessages, Gathers}
use Rattle.edi_envelope.proofs.BlockLemmas.{blocks-at}
use Rattle.edi_envelope.proofs.FrameLemmas.{other_tag}
use Rattle.edi_envelope.proofs.JoinLemmas.{between_of}
use Rattle.edi_envelope.proofs.CheckLemmas.{last_at}
use Rattle.edi_envelope.proofs.RowLemmas.{frame_tags}

pub drop_one : (lent : List Segment) (s : Segment) → 0 < length lent → drop 1 (lent ++ s ∷ []) ≡ drop 1 lent ++ s ∷ []
drop_one [] s h = absurd (omega arith)
drop_one (u ∷ m) s h = refl

head_on : (lent : List Segment) (s : Segment) → 0 < length lent → head_in (lent ++ s ∷ []) ≡ head_in lent
head_on [] s h = absurd (omega arith)
head_on (u ∷ m) s h = refl

-- the last block
pub joined : (m before l : List Segment) → m ≡ before ++ l → IsLast before l → l ≢ [] → blocks m ≡ blocks before ++ l ∷ []
joined m before [] split is some = absurd (some refl)
joined m before (u ∷ ys) split is some = ap blocks split ∙ blocks-at before u ys is.0 is.1

pub closed_empty : (lent : List Segment) (g : Gathered) → KeepsMessages lent g → g.last.items ≡ [] → HasAllMessages lent g
closed_empty lent g k none = record {
  head = k.head;
  last = none;
  messages =
      k.messages ∙ ap (λ l. map message_of (blocks l)) (sym (k.split ∙ ap (λ l. k.before ++ l) none ∙ append-nil k.before));
}

pub closed_more : (lent : List Segment) (g : Gathered) (messages : List RawMessage) (message : RawMessage) → KeepsMessages lent g
    → g.last.items ≢ []
    → message ≡ message_of g.last.items
    → messages ≡ g.messages.items ++ message ∷ []
    → messages ≡ map message_of (blocks (drop 1 lent))
closed_more lent g messages message k some is put =
    put ∙ ap (λ m. g.messages.items ++ m ∷ []) is ∙ ap (λ l. l ++ message_of g.last.items ∷ []) k.messages
    ∙ sym (ap (map message_of) (joined (drop 1 lent) k.before g.last.items k.split k.last some)
    ∙ map_push message_of (blocks k.before) g.last.items)

pub not_last : (lent : List Segment) (s : Segment) → is_unz s ≡ false → is_unz (last_segment (lent ++ s ∷ [])) ≡ false
not_last lent s h = ap is_unz (last_at lent s) ∙ h

going_gathers : (lent : List Segment) (g : Gathered) → is_unz (last_segment lent) ≡ false → KeepsMessages lent g → Gathers lent g
going_gathers lent g z k = record { going = λ _. k; ended = λ e. absurd (true≢false (sym e ∙ z)) }

pub header_kept : (p : Place) (lent : List Segment) (g new : Gathered) (s : Segment) → p ≡ place.Header → Gathers lent g → Placed p lent s
    → new.head ≡ Some (head_of s)
    → new.messages.items ≡ g.messages.items
    → new.last.items ≡ g.last.items
    → Gathers (lent ++ s ∷ []) new
header_kept p lent g new s is gathers placed head messages last =
    let at = subst (λ (q : Place). Placed q lent s) is placed in
    let k = subst (λ (l : List Segment). KeepsMessages l g) at.0 (gathers.going (ap (λ l. is_unz (last_segment l)) at.0)) in
    subst (λ (l : List Segment). Gathers (l ++ s ∷ []) new) (sym at.0)
    (going_gathers (s ∷ []) new (other_tag s.tag (codes "UNB") (codes "UNZ") refl at.1)
    (record {
      head = head;
      before = k.before;
      split = k.split ∙ ap (λ l. k.before ++ l) (sym last);
      last = subst (IsLast k.before) (sym last) k.last;
      messages = messages ∙ k.messages;
    }))

pub unh_kept : (p : Place) (lent : List Segment) (g new : Gathered) (s : Segment) → p ≡ place.MessageHeader → HasAllMessages lent g
    → Placed p lent s
    → new.head ≡ g.head
    → new.messages.items ≡ g.messages.items
    → new.last.items ≡ g.last.items ++ s ∷ []
    → Gathers (lent ++ s ∷ []) new
unh_kept p lent g new s is w placed head messages last =
    let at = subst (λ (q : Place). Placed q lent s) is placed in
    let alone : new.last.items ≡ s ∷ [] = last ∙ ap (λ l. l ++ s ∷ []) w.last in
    going_gathers (lent ++ s ∷ []) new (not_last lent s (other_tag s.tag (codes "UNH") (codes "UNZ") refl at.1))
    (record {
      head = head ∙ w.head ∙ sym (head_on lent s at.0.0);
      before = drop 1 lent;
      split = drop_one lent s at.0.0 ∙ ap (λ l. drop 1 lent ++ l) (sym alone);
      last = subst (IsLast (drop 1 lent)) (sym alone) (at.1, refl);
      messages = messages ∙ w.messages;
    })

pub last_more : (before l : List Segment) (s : Segment) → IsLast before l → list_any is_unh (before ++ l) ≡ true → is_unh s ≡ false
    → IsLast before (l ++ s ∷ [])
last_more before [] s is some not_h = absurd (false≢true (ap (λ b. list_any is_unh (b ++ [])) (sym is) ∙ some))
last_more before (u ∷ ys) s is some not_h =
    (is.0, list_any-append is_unh ys (s ∷ []) ∙ or_from (list_any is_unh ys) _ is.1 (or_from (is_unh s) false not_h refl))

pub record GoesOnInMessage (lent : List Segment) (s : Segment) : Type 0 where
  pub going : IsGoingOn lent
  pub begun : IsBegun lent
  pub not_h : is_unh s ≡ false
  pub not_z : is_unz s ≡ false

inside_goes : (lent : List Segment) (s : Segment) → Placed place.Inside lent s → GoesOnInMessage lent s
inside_goes lent s h = record { going = h.0; begun = h.1; not_h = (frame_tags s h.2).0; not_z = h.3 }

trailer_goes : (lent : List Segment) (s : Segment) → Placed place.MessageTrailer lent s → GoesOnInMessage lent s
trailer_goes lent s h = record {
  going = h.0;
  begun = h.1;
  not_h = other_tag s.tag (codes "UNT") (codes "UNH") refl h.2;
  not_z = other_tag s.tag (codes "UNT") (codes "UNZ") refl h.2;
}

pub goes_at : (p : Place) (lent : List Segment) (s : Segment) → (p ≡ place.Inside)
    ⊎ (p ≡ place.MessageTrailer) → Placed p lent s → GoesOnInMessage lent s
goes_at p lent s (inl is) placed = inside_goes lent s (subst (λ (q : Place). Placed q lent s) is placed)
goes_at p lent s (inr is) placed = trailer_goes lent s (subst (λ (q : Place). Placed q lent s) is placed)

pub inside_kept : (lent : List Segment) (g new : Gathered) (s : Segment) → Gathers lent g → GoesOnInMessage lent s
    → new.head ≡ g.head
    → new.messages.items ≡ g.messages.items
    → new.last.items ≡ g.last.items ++ s ∷ []
    → Gathers (lent ++ s ∷ []) new
inside_kept lent g new s gathers goes head messages last =
    let k = gathers.going goes.going.1 in
    going_gathers (lent ++ s ∷ []) new (not_last lent s goes.not_z)
    (record {
      head = head ∙ k.head ∙ sym (head_on lent s goes.going.0);
      before = k.before;
      split =
          drop_one lent s goes.going.0 ∙ ap (λ l. l ++ s ∷ []) k.split ∙ append_assoc k.before g.last.items (s ∷ [])
          ∙ ap (λ l. k.before ++ l) (sym last);
      last =
          subst (IsLast k.before) (sym last)
          (last_more k.before g.last.items s k.last (ap (list_any is_unh) (sym k.split) ∙ goes.begun.0) goes.not_h);
      messages = messages ∙ k.messages;
    })

ends_at : (lent : List Segment) (g : Gathered) (z : Segment) → HasAllMessages lent g → 0 < length lent → EndsMessages (lent ++ z ∷ []) g
ends_at [] g z w some = absurd (omega arith)
ends_at (u ∷ m) g z w some =
    record { head = w.head; messages = w.messages ∙ ap (λ l. map message_of (blocks l)) (sym (between_of u m z)) }

pub trailer_kept : (p : Place) (lent : List Segment) (g : Gathered) (z : Segment) → p ≡ place.Trailer → HasAllMessages lent g
    → Placed p lent z
    → Gathers (lent ++ z ∷ []) g
trailer_kept p lent g z is w placed =
    let at = subst (λ (q : Place). Placed q lent z) is placed in
    let last : is_unz (last_segment (lent ++ z ∷ [])) ≡ true = ap is_unz (last_at lent z) ∙ at.1 in
    record { going = λ e. absurd (true≢false (sym last ∙ e)); ended = λ _. ends_at lent g z w at.0.0 }

pub keeps_at : (p : Place) (lent : List Segment) (g : Gathered) (s : Segment) →
    (p ≡ place.MessageHeader) ⊎ (p ≡ place.Trailer) → Gathers lent g
    → Placed p lent s
    → KeepsMessages lent g
keeps_at p lent g s (inl is) gathers placed = gathers.going (subst (λ (q : Place). Placed q lent s) is placed).0.1
keeps_at p lent g s (inr is) gathers placed = gathers.going (subst (λ (q : Place). Placed q lent s) is placed).0.1

pub nothing_kept : (g : Gathered) → g.head ≡ head_in [] → g.messages.items ≡ [] → g.last.items ≡ [] → Gathers [] g
nothing_kept g head messages last = going_gathers [] g refl
    (record { head = head; before = []; split = sym last; last = subst (IsLast []) (sym last) refl; messages = messages })
