use Rattle.sv_commit.proofs.Rooted.{rooted, tokens-after, page-after}
use Rattle.sv_commit.proofs.Results.{ok-map}
use Rattle.sv_commit.proofs.root.show.Goals as goal

pub commit-requires : goal.commit-requires
commit-requires c = rooted c.args.screen.now.page c.args.lives c.requires

pub returns-clause-page : goal.returns-clause-page
returns-clause-page c = ok-map c.commit.result c.commit.ensures.becomes (λ now b. page-after c.args.screen.now c.commit.new.screen c.args.lives now c.requires b)

pub returns-clause-numbers : goal.returns-clause-numbers
returns-clause-numbers c = ok-map c.commit.result c.commit.ensures.becomes (λ now b. tokens-after c.args.screen.now c.commit.new.screen c.args.lives now b)
