use Rattle.byte_automata.proofs.Walks.{makes-places, makes-texts}
use Rattle.byte_automata.proofs.laws.texts_count_places.Goals as goal

pub returns : goal.returns
returns g c =
    λ result old new. (
      makes-places (g.W.Walk.start c.args.walk.now) (g.W.Walk.after c.args.walk.now) result old new,
      makes-texts (g.W.Walk.start c.args.walk.now) (g.W.Walk.after c.args.walk.now) result old new,
    )
