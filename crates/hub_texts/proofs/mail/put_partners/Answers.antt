use Rattle.std.proofs.Common.{ℕ, List, ◌++◌, codes, ap, ◌∙◌}
use Rattle.hub_texts.proofs.Appended.{joined}
use Rattle.hub_texts.proofs.mail.put_partners.Goals as goal

pub returns : goal.returns
returns c =
    let out = c.args.out.now.items in
    let hub = c.args.hub.now in
    let owner = c.args.owner.now in
    let start = codes "UNB+UNOC:3+" in
    let qualifier = codes ":14+" in
    joined out (start ++ hub ++ qualifier ++ owner) qualifier
    (joined out (start ++ hub ++ qualifier) owner
    (joined out (start ++ hub) qualifier
    (joined out start hub c.in_ok-extend_from_slice.ensures.items
    (c.in_ok-extend_from_slice-2.ensures.items
    ∙ ap (λ (digits : List ℕ). c.extend_from_slice.new.self.items ++ digits) c.digits.ensures.value))
    c.in_ok-extend_from_slice-3.ensures.items)
    (c.in_ok-extend_from_slice-4.ensures.items
    ∙ ap (λ (digits : List ℕ). c.extend_from_slice-3.new.self.items ++ digits) c.digits-2.ensures.value))
    c.in_ok-extend_from_slice-5.ensures.items
