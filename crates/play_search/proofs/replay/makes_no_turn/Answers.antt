use Rattle.play_search.proofs.Common.{refl, sym, ◌∙◌}
use Rattle.play_search.proofs.replay.makes_no_turn.Goals as goal

pub returns : goal.returns
returns c = λ yes. record {
  old = c.args.play.now;
  new = c.take_turn.new.self;
  turned = c.in_ok-turned.turned;
  play = c.requires;
  turn = c.in_ok-turned.ensures.turn;
  takes = c.in_ok-turned.ensures.takes refl;
  none = sym c.is_made.ensures ∙ c.if-is_made.false;
  stays = c.in_ok-stays.ensures yes;
}
