use Rattle.client_vanish.proofs.Common.{Call, ap, object_of, vanishing_call}
use Rattle.client_vanish.proofs.VanishingLaws.{parted_done}
use Rattle.client_vanish.proofs.vanishing.give_up.Goals as goal

pub returns-in-Ok : goal.returns-in-Ok
returns-in-Ok g c =
    parted_done c.args.client.now c.close.new.client (object_of c.args.object) (Call.Close c.in-Token.token.key) (ap (λ e.
    vanishing_call (object_of e)) c.in-Token.is) c.in-Ok.ensures

pub returns-in-Ok-close : goal.returns-in-Ok-close
returns-in-Ok-close g c =
    parted_done c.args.client.now c.close-in-Collection.new.client (object_of c.args.object) (Call.Close c.in-Collection.collection.key)
    (ap (λ e. vanishing_call (object_of e)) c.in-Collection.is) c.in-Ok-close.ensures

pub returns-in-Ok-drop_handle : goal.returns-in-Ok-drop_handle
returns-in-Ok-drop_handle g c =
    parted_done c.args.client.now c.drop_handle.new.client (object_of c.args.object) (Call.DropHandle c.in-Handle.handle.buffer
    c.in-Handle.handle.strength) (ap (λ e. vanishing_call (object_of e)) c.in-Handle.is) c.in-Ok-drop_handle.ensures
