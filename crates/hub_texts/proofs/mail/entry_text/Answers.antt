use Rattle.std.proofs.Common.{◌++◌, List, ℕ, codes, ap, ap₂, ◌∙◌}
use Rattle.edi_tokens.specs.Text.{una}
use Rattle.edi_moment.specs.Moment.{date_text, time_text}
use Rattle.hub_law.specs.MailText.{entry_text}
use Rattle.hub_texts.proofs.MailTexts.{parts_of_mail}
use Rattle.hub_texts.proofs.mail.entry_text.Goals as goal

pub returns : goal.returns
unfolding entry_text
returns c =
    let hub = c.args.hub.now in
    let entry = c.args.entry.now in
    let date = date_text entry.moment in
    let time = time_text entry.moment in
    let number = c.as_bytes-number.result.now in
    let body = c.as_slice-body.result.now in
    let partners = codes "UNB+UNOC:3+" ++ hub ++ codes ":14+" ++ entry.supplier ++ codes ":14+" in
    let dated : List ℕ → List ℕ = λ n. date ++ codes ":" ++ time ++ codes "+" ++ n ++ codes "'" in
    let trailer : List ℕ → List ℕ = λ n. codes "UNZ+1+" ++ n ++ codes "'" in
    let whole : List ℕ → List ℕ → List ℕ = λ n x.
    una entry.decimal
    ++ (codes "UNB+UNOC:3+"
    ++ hub
    ++ codes ":14+"
    ++ entry.supplier
    ++ codes ":14+"
    ++ date
    ++ codes ":"
    ++ time
    ++ codes "+"
    ++ n
    ++ codes "'"
    ++ x
    ++ codes "UNZ+1+"
    ++ n
    ++ codes "'") in
    let start = c.in_ok-extend_from_slice.ensures.items
    ∙ ap₂ (λ (a b : List ℕ). a ++ b) c.in_ok-out.ensures.items c.service_string.ensures in
    c.from_vec.ensures
    ∙ c.in_ok-put_trailer.ensures
    ∙ ap (λ (s : List ℕ). s ++ trailer number) (c.in_ok-extend_from_slice-2.ensures.items
    ∙ ap (λ (s : List ℕ). s ++ body) (c.in_ok-put_date.ensures
    ∙ ap (λ (s : List ℕ). s ++ dated number) (c.in_ok-put_partners.ensures
    ∙ ap (λ (s : List ℕ). s ++ partners) start)))
    ∙ parts_of_mail (una entry.decimal) (codes "UNB+UNOC:3+") hub (codes ":14+") entry.supplier date (codes ":") time
    (codes "+") number (codes "'") body (codes "UNZ+1+")
    ∙ ap₂ whole (c.as_bytes-number.ensures.value ∙ c.format.ensures.text) c.as_slice-body.ensures
