use Rattle.std.proofs.Common.{refl}
use Rattle.pn_yaml.specs.View.{view}
use Rattle.pn_config.specs.declared.key.Key.TheVariants as key
use Rattle.pn_config.proofs.TakesLemmas.{taken}
use Rattle.pn_config.proofs.settings.Settings.take.Goals as goal

pub returns-in_ok-self-in-Packages-clause-ok : goal.returns-in_ok-self-in-Packages-clause-ok
returns-in_ok-self-in-Packages-clause-ok c = taken key.Packages c.args.kind c.args.key.now (view c.args.value.now) c.args.self.now _ c.in_ok-self-in-Packages.field-0 c.in-Packages.is refl c.in_ok-self-in-Packages.ensures.ok refl

pub returns-in_ok-self-in-Overrides-clause-ok : goal.returns-in_ok-self-in-Overrides-clause-ok
returns-in_ok-self-in-Overrides-clause-ok c = taken key.Overrides c.args.kind c.args.key.now (view c.args.value.now) c.args.self.now _ c.in_ok-self-in-Overrides.field-0 c.in-Overrides.is refl c.in_ok-self-in-Overrides.ensures.ok refl

pub returns-in_ok-self-in-AutoInstallPeers-clause-ok : goal.returns-in_ok-self-in-AutoInstallPeers-clause-ok
returns-in_ok-self-in-AutoInstallPeers-clause-ok c = taken key.AutoInstallPeers c.args.kind c.args.key.now (view c.args.value.now) c.args.self.now _ c.in_ok-self-in-AutoInstallPeers.field-0 c.in-AutoInstallPeers.is refl c.in_ok-self-in-AutoInstallPeers.ensures.ok refl

pub returns-in_ok-self-in-StrictPeerDependencies-clause-ok : goal.returns-in_ok-self-in-StrictPeerDependencies-clause-ok
returns-in_ok-self-in-StrictPeerDependencies-clause-ok c = taken key.StrictPeerDependencies c.args.kind c.args.key.now (view c.args.value.now) c.args.self.now _ c.in_ok-self-in-StrictPeerDependencies.field-0 c.in-StrictPeerDependencies.is refl c.in_ok-self-in-StrictPeerDependencies.ensures.ok refl

pub returns-in_ok-self-in-ResolvePeersFromWorkspaceRoot-clause-ok : goal.returns-in_ok-self-in-ResolvePeersFromWorkspaceRoot-clause-ok
returns-in_ok-self-in-ResolvePeersFromWorkspaceRoot-clause-ok c = taken key.ResolvePeersFromWorkspaceRoot c.args.kind c.args.key.now (view c.args.value.now) c.args.self.now _ c.in_ok-self-in-ResolvePeersFromWorkspaceRoot.field-0 c.in-ResolvePeersFromWorkspaceRoot.is refl c.in_ok-self-in-ResolvePeersFromWorkspaceRoot.ensures.ok refl

pub returns-in_ok-self-in-Hoist-clause-ok : goal.returns-in_ok-self-in-Hoist-clause-ok
returns-in_ok-self-in-Hoist-clause-ok c = taken key.Hoist c.args.kind c.args.key.now (view c.args.value.now) c.args.self.now _ c.in_ok-self-in-Hoist.field-0 c.in-Hoist.is refl c.in_ok-self-in-Hoist.ensures.ok refl

pub returns-in_ok-self-in-HoistPattern-clause-ok : goal.returns-in_ok-self-in-HoistPattern-clause-ok
returns-in_ok-self-in-HoistPattern-clause-ok c = taken key.HoistPattern c.args.kind c.args.key.now (view c.args.value.now) c.args.self.now _ c.in_ok-self-in-HoistPattern.field-0 c.in-HoistPattern.is refl c.in_ok-self-in-HoistPattern.ensures.ok refl

pub returns-in_ok-self-in-PublicHoistPattern-clause-ok : goal.returns-in_ok-self-in-PublicHoistPattern-clause-ok
returns-in_ok-self-in-PublicHoistPattern-clause-ok c = taken key.PublicHoistPattern c.args.kind c.args.key.now (view c.args.value.now) c.args.self.now _ c.in_ok-self-in-PublicHoistPattern.field-0 c.in-PublicHoistPattern.is refl c.in_ok-self-in-PublicHoistPattern.ensures.ok refl

pub returns-in_ok-self-in-ShamefullyHoist-clause-ok : goal.returns-in_ok-self-in-ShamefullyHoist-clause-ok
returns-in_ok-self-in-ShamefullyHoist-clause-ok c = taken key.ShamefullyHoist c.args.kind c.args.key.now (view c.args.value.now) c.args.self.now _ c.in_ok-self-in-ShamefullyHoist.field-0 c.in-ShamefullyHoist.is refl c.in_ok-self-in-ShamefullyHoist.ensures.ok refl

pub returns-in_ok-self-in-VirtualStoreDir-clause-ok : goal.returns-in_ok-self-in-VirtualStoreDir-clause-ok
returns-in_ok-self-in-VirtualStoreDir-clause-ok c = taken key.VirtualStoreDir c.args.kind c.args.key.now (view c.args.value.now) c.args.self.now _ c.in_ok-self-in-VirtualStoreDir.field-0 c.in-VirtualStoreDir.is refl c.in_ok-self-in-VirtualStoreDir.ensures.ok refl
