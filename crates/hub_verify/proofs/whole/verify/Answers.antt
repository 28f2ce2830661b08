use Rattle.hub_verify.specs.Cross.{RowsFit}
use Rattle.hub_verify.specs.Verdict.{ToldUnsound}
use Rattle.hub_verify.proofs.Judging.{unclean_told, clean_told, lacking_told, fit_told, misfit_told, sound_told}
use Rattle.hub_verify.proofs.whole.verify.Goals as goal

pub returns-in-Some : goal.returns-in-Some
returns-in-Some g c =
    unclean_told g.S.AllRows.content g.S.AllRows.honest c.args.store.now c.unclean_row.new.store c.in_ok-unclean.unclean
    c.in-Some.found c.in-Some.is c.in_ok-unclean.ensures

pub returns-in-Some-lacking : goal.returns-in-Some-lacking
returns-in-Some-lacking g c =
    lacking_told g.S.AllRows.content g.S.AllRows.honest c.args.store.now c.unsound_row.new.store c.in_ok-lacking.lacking
    c.in-Some-lacking.found c.in-Some-lacking.is
    (clean_told g.S.AllRows.content g.S.AllRows.honest (ToldUnsound RowsFit) c.args.store.now c.unclean_row.new.store
    c.unsound_row.new.store c.in_ok-unclean.unclean
    c.in_default.is c.in_ok-lacking.lacking c.in_ok-unclean.ensures c.in_ok-lacking.ensures)

pub returns-in-Some-misfit : goal.returns-in-Some-misfit
returns-in-Some-misfit g c =
    misfit_told g.S.AllRows.content g.S.AllRows.honest c.args.store.now c.unsound_goods.new.store c.in_ok-misfit.misfit
    c.in-Some-misfit.found c.in-Some-misfit.is
    (fit_told g.S.AllRows.content g.S.AllRows.honest c.args.store.now c.unsound_row.new.store c.unsound_goods.new.store
    c.in_ok-lacking.lacking c.in_default-lacking.is
    c.in_ok-misfit.misfit
    (clean_told g.S.AllRows.content g.S.AllRows.honest (ToldUnsound RowsFit) c.args.store.now c.unclean_row.new.store
    c.unsound_row.new.store c.in_ok-unclean.unclean
    c.in_default.is c.in_ok-lacking.lacking c.in_ok-unclean.ensures c.in_ok-lacking.ensures) c.in_ok-misfit.ensures)

pub returns : goal.returns
returns g c =
    sound_told g.S.AllRows.content g.S.AllRows.honest c.args.store.now c.unsound_goods.new.store c.in_ok-misfit.misfit
    c.in_default-misfit.is
    (fit_told g.S.AllRows.content g.S.AllRows.honest c.args.store.now c.unsound_row.new.store c.unsound_goods.new.store
    c.in_ok-lacking.lacking c.in_default-lacking.is
    c.in_ok-misfit.misfit
    (clean_told g.S.AllRows.content g.S.AllRows.honest (ToldUnsound RowsFit) c.args.store.now c.unclean_row.new.store
    c.unsound_row.new.store c.in_ok-unclean.unclean
    c.in_default.is c.in_ok-lacking.lacking c.in_ok-unclean.ensures c.in_ok-lacking.ensures) c.in_ok-misfit.ensures)
