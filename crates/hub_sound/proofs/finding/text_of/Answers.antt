use Rattle.std.proofs.Common.{◌≡◌, true, cond, ap, sym, ◌∙◌, arith}
use Rattle.hub_store.specs.Clean.{are_bytes}
use Rattle.hub_sound.specs.declared.finding.KeyCell.TheVariants.{Bytes, Other}
use Rattle.hub_sound.proofs.Settling.{bytes_fit}
use Rattle.hub_sound.proofs.finding.text_of.Goals as goal

pub returns : goal.returns
returns c =
    let right : are_bytes c.args.bytes.items ≡ true = bytes_fit c.args.bytes.items (λ k d within. omega arith) in
    ap Bytes c.from_vec.ensures ∙ sym (ap (λ v. cond v (Bytes c.args.bytes.items) Other) right)
