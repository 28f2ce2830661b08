use Rattle.std.proofs.Common.{◌≡◌, [], ◌++◌, take, codes, option_map, append_assoc, ap, sym, ◌∙◌, arith}
use Rattle.hub_journal.specs.Front.{kept}
use Rattle.hub_journal.specs.Line.{request_text}
use Rattle.hub_journal.specs.Reply.{shown}
use Rattle.hub_journal.specs.Request.{words_of}
use Rattle.hub_journal.proofs.Kept.{cut_kept, then_keep}
use Rattle.hub_journal.proofs.line.keep_request.Goals as goal

pub returns-in-Some : goal.returns-in-Some
returns-in-Some c =
    let method = shown c.in-Some.request.method.now in
    let target = shown c.in-Some.request.target.now in
    let first : c.keep_shown.new.front ≡ kept [] method =
    c.keep_shown.ensures ∙ ap (λ front. kept front method) c.new-shown.ensures in
    let second : c.keep.new.self ≡ kept [] (method ++ codes " ") =
    then_keep [] method c.keep_shown.new.front (codes " ") c.keep.new.self first c.keep.ensures in
    let third : c.keep_shown-in-Some.new.front ≡ kept [] ((method ++ codes " ") ++ target) =
    then_keep [] (method ++ codes " ") c.keep.new.self target c.keep_shown-in-Some.new.front second c.keep_shown-in-Some.ensures in
    let whole : c.keep_shown-in-Some.new.front ≡ kept [] (method ++ (codes " " ++ target)) =
    third ∙ ap (kept []) (append_assoc method (codes " ") target) in
    let short : c.as_slice.result.now ≡ take 200 (method ++ (codes " " ++ target)) =
    c.as_slice.ensures.value ∙ c.cut.ensures ∙ ap (take 200) whole
    ∙ cut_kept 200 (method ++ (codes " " ++ target)) (omega arith) in
    c.keep-in-Some.ensures ∙ ap (kept c.args.line.now) short
    ∙ ap (λ request. kept c.args.line.now (request_text (option_map words_of request))) (sym c.in-Some.is)
