-- What contracts see of a session.
use Rattle.std.specs.Arc.{arc_value}
use Rattle.lucy_session.specs.Sessions.{Dialogue}
use Rattle.lucy_session.specs.declared.session.Session.TheInside.{Inside}

abbrev pub dialogue_of : Inside → Dialogue
dialogue_of session = record {
  plan = arc_value session.plan;
  names = session.names;
  points = session.points.items;
  reached = session.reached.items;
  pair = session.pair;
}
