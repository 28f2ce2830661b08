use Rattle.std.proofs.Common.{◌≡◌, sym, ap, ◌∙◌, length, rules}
use Rattle.std.specs.List.{insert}
use Rattle.std.specs.Option.{unwrap_or}
use Rattle.std.specs.Ordering.{is_gt}
use Rattle.std.specs.Prelude.{position}
use Rattle.hub_parties.specs.KeyOrder.{bytes_cmp}
use Rattle.hub_parties.proofs.Placed.{put_is_insert, place_is}
use Rattle.hub_parties.proofs.prefixes.put.Goals as goal

pub returns : goal.returns
returns c =
    let old = c.args.prefixes.now.items in
    let found : c.unwrap_or-place.result ≡ unwrap_or (position (λ y. is_gt (bytes_cmp y c.args.prefix)) old) (length old) = search rules in
    c.in_ok-insert.ensures.items
    ∙ ap (λ n. insert old n c.args.prefix) (found ∙ place_is (λ y. is_gt (bytes_cmp y c.args.prefix)) old)
    ∙ sym (put_is_insert bytes_cmp c.args.prefix old)
