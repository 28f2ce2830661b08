use Rattle.hub_tables.specs.Tables.{Tables}
use Rattle.hub_rules.specs.Laws.{SoundUnder, PartiesRise}
use Rattle.hub_law.specs.Messages.{incoming}
use Rattle.hub_law.specs.Requests.{deliver_named}
use Rattle.hub_transactions.specs.HubTexts.Decision.{told_of}
use Rattle.hub_core.proofs.Callers.{holds_after, parties_rise}
use Rattle.hub_core.proofs.upload.take_message.Goals as goal

pub returns-in-Retailer-clause-may : goal.returns-in-Retailer-clause-may
returns-in-Retailer-clause-may g c honest kept = rw c.in-Retailer.is (λ (may : SoundUnder c.args.upload.now.register.now.suppliers
    (g.S.Store.content c.args.store.now) × PartiesRise (g.S.Store.content c.args.store.now)).
    let register = c.args.upload.now.register.now in
    let message = c.args.message.now in
    let came = incoming c.args.upload.now.moment c.args.upload.now.interchange.now message in
    let after = c.acts_stay_sound.ensures.retailers register message came (g.S.Store.content c.args.store.now) may.0 may.1 in
    holds_after (λ (t : Tables). SoundUnder register.suppliers t × PartiesRise t) g.S.Store
    c.args.store.now c.take_retailers_message.new.store
    (deliver_named register (message, came)) told_of c.take_retailers_message.result
    (c.take_retailers_message.ensures.carried may.0 may.1) c.take_retailers_message.ensures.unharmed honest may
    (record { free = may.0.free; sound = after.sound }, parties_rise _ after.rising))
