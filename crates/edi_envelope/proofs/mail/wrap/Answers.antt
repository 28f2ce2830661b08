use Rattle.std.proofs.Common.{◌≡◌, List, [], ◌∷◌, ◌++◌, map, arith, ◌∙◌, ap, refl}
use Rattle.std.specs.Fmt.{decimal}
use Rattle.edi_segments.specs.declared.segment.Segment.{Segment}
use Rattle.edi_moment.specs.Moment.{date_text, time_text}
use Rattle.edi_tokens.specs.Text.{text}
use Rattle.edi_envelope.specs.Mail.{mail_segments, renumbered, unb_from, unz_of}
use Rattle.edi_envelope.proofs.MailLemmas.{AreDigits-from_All, text-mail_segments}
use Rattle.edi_envelope.proofs.mail.wrap.Goals as goal

-- the segments between a header and a trailer, each appended
appended : (empty one more all : List Segment) (unb header unz trailer : Segment) (body : List Segment)
    → empty ≡ []
    → one ≡ empty ++ header ∷ []
    → header ≡ unb
    → more ≡ one ++ body
    → all ≡ more ++ trailer ∷ []
    → trailer ≡ unz
    → all ≡ unb ∷ body ++ unz ∷ []
appended empty one more all unb header unz trailer body e o h m a t = rw (a, m, o, e, h, t) refl

pub returns : goal.returns
returns c =
    let a = c.args in
    let number : c.as_bytes.result.now ≡ decimal a.number = c.as_bytes.ensures.value ∙ c.in_ok-reference.ensures.ok in
    let number_again : c.as_bytes-2.result.now ≡ decimal a.number = c.as_bytes-2.ensures.value ∙ c.in_ok-reference.ensures.ok in
    let same : c.push-2.new.self ≡ mail_segments a.hub.now a.owner.now a.moment a.number a.message.now =
    appended c.new-segments.result c.push.new.self c.push_numbered.new.out c.push-2.new.self
    (unb_from a.hub.now a.owner.now (date_text a.moment) (time_text a.moment) (decimal a.number)) c.in_ok-header.field-0
    (unz_of (decimal a.number)) c.in_ok-trailer.field-0 (map renumbered a.message.now.segments) c.new-segments.ensures
    c.in_ok-push.ensures.ok
    (c.in_ok-header.ensures ∙ ap (unb_from a.hub.now a.owner.now (date_text a.moment) (time_text a.moment)) number)
    (c.in_ok-push_numbered.ensures
    ∙ ap (λ (body : List Segment). c.push.new.self ++ map renumbered body) c.as_slice.ensures)
    c.in_ok-push-2.ensures.ok (c.in_ok-trailer.ensures ∙ ap unz_of number_again) in
    record {
      segments = same;
      text =
          ap text same
          ∙ text-mail_segments a.hub.now a.owner.now a.moment a.number a.message.now (AreDigits-from_All _ c.requires.hub)
          (AreDigits-from_All _ c.requires.owner) (omega arith);
    }
