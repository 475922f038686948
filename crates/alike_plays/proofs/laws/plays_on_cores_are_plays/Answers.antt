use Rattle.alike_plays.proofs.Reaching.{reached_played}
use Rattle.alike_plays.proofs.laws.plays_on_cores_are_plays.Goals as goal

pub returns : goal.returns
returns c setup p reached =
    let played = reached_played setup p reached in
    (played.turns, played.seen.history, played.plays, played.seen.shows, played.fell)
