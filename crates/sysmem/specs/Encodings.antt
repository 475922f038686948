-- What is written for a node, a held buffer and a tracker that fired.
use Rattle.sm_names.specs.declared.keys.NodeKey.{NodeKey}
use Rattle.sm_names.specs.declared.tracking.Fired.{Fired}
use Rattle.sm_names.specs.declared.keys.HeldBuffer.{HeldBuffer}
use Rattle.sysmem.specs.declared.views.FiredWords.{FiredWords}
use Rattle.sysmem.specs.declared.views.HeldWords.{HeldWords}
use Rattle.sysmem.specs.declared.views.KeyWords.{KeyWords}

-- a node by its slot and generation
abbrev pub key_words : NodeKey → KeyWords
key_words key = record { slot = key.slot; generation = key.generation }

-- the node with this slot and generation
abbrev pub key_from_words : KeyWords → NodeKey
key_from_words words = record { slot = words.slot; generation = words.generation }

-- a buffer by its collection and index, and its pages
abbrev pub held_words : HeldBuffer → HeldWords
held_words held = record {
  collection = held.buffer.collection;
  index = held.buffer.index;
  start = held.pages.start;
  pages = held.pages.pages;
}

-- a tracker, and the event at which it fired
abbrev pub fired_words : Fired → FiredWords
fired_words fired = record { tracker = fired.tracker; event = fired.event }
