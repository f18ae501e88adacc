use Rattle.nr_world_service.proofs.Explained.{stories_are_explained}
use Rattle.nr_world_service.proofs.law.story_law.Goals as goal

pub returns : goal.returns
returns c = stories_are_explained
