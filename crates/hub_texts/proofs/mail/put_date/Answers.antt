use Rattle.std.proofs.Common.{ℕ, List, ◌++◌, codes, ap, ◌∙◌}
use Rattle.edi_moment.specs.Moment.{date_text, time_text}
use Rattle.hub_texts.proofs.Appended.{joined}
use Rattle.hub_texts.proofs.mail.put_date.Goals as goal

pub returns : goal.returns
returns c =
    let out = c.args.out.now.items in
    let date = date_text c.args.moment in
    let time = time_text c.args.moment in
    let number = c.args.number.now in
    joined out (date ++ codes ":" ++ time ++ codes "+" ++ number) (codes "'")
    (joined out (date ++ codes ":" ++ time ++ codes "+") number
    (joined out (date ++ codes ":" ++ time) (codes "+")
    (joined out (date ++ codes ":") time
    (joined out date (codes ":")
    (c.in_ok-extend_from_slice.ensures.items ∙ ap (λ (digits : List ℕ). out ++ digits) c.date_digits.ensures)
    c.in_ok-extend_from_slice-2.ensures.items)
    (c.in_ok-extend_from_slice-3.ensures.items
    ∙ ap (λ (digits : List ℕ). c.extend_from_slice-2.new.self.items ++ digits) c.time_digits.ensures))
    c.in_ok-extend_from_slice-4.ensures.items)
    c.in_ok-extend_from_slice-5.ensures.items)
    c.in_ok-extend_from_slice-6.ensures.items
