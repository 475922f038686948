use Rattle.alike_cores.proofs.Finding.{found_node, sound_apart}
use Rattle.alike_cores.proofs.Shown.{shown_sound}
use Rattle.alike_cores.proofs.Views.{fired-alike, free-alike}
use Rattle.alike_cores.proofs.laws.alike_cores_show_alike.Goals as goal

pub returns-clause-nodes : goal.returns-clause-nodes
returns-clause-nodes c to id number keeps kept s t history shows alike key =
    found_node to id keeps kept s.forest.collections t.forest.collections alike.collections
    (sound_apart s.forest (shown_sound s history shows)) key

pub returns-clause-fired : goal.returns-clause-fired
returns-clause-fired c to id number counted s t alike tracker = fired-alike to id number s t alike counted tracker

pub returns-clause-free : goal.returns-clause-free
returns-clause-free c to id number s t alike = free-alike to id number s t alike
